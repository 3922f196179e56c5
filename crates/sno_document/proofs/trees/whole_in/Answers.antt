-- An unsigned number is read as it is.
use Rattle.std.proofs.Common.{◌≡◌, ℕ, Option, Some, None, get_or, false, ◌==◌, sym, ap, ◌∙◌}
use Rattle.std.specs.Prelude.{IfSome, unwrap_or}
use Rattle.fast_float.specs.Text.{scan}
use Rattle.serde_json.specs.Data.{Num, unsigned}
use Rattle.serde_json.specs.Read.{number_of, number_from}
use Rattle.sno_document.proofs.trees.whole_in.Goals as goal

seen_by : (result : Option ℕ) (by seen : Option Num) → by ≡ seen → IfSome result (λ n. by ≡ Some (unsigned n)) → IfSome result (λ n. unwrap_or seen (unsigned 0) ≡ unsigned n)
seen_by None by seen same h = h
seen_by (Some n) by seen same h = ap (λ (o : Option Num). unwrap_or o (unsigned 0)) (sym same ∙ h)

pub returns-else-has_minus : goal.returns-else-has_minus
unfolding number_of
returns-else-has_minus c =
    let s = c.as_bytes-bytes.result.now in
    let unsigned_text : (get_or s 0 0 == 45) ≡ false = sym c.if-has_minus.ensures.value in
    let read : number_from false (scan s) ≡ number_of s = rw unsigned_text in
    seen_by c.unsigned_in.result (number_from false c.scan.result) (number_of c.args.text.now)
    (ap (number_from false) c.scan.ensures.parts ∙ read ∙ ap number_of c.as_bytes-bytes.ensures.value) c.unsigned_in.ensures
