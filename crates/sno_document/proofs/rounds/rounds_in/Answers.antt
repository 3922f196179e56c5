-- A number with a sign says no rounds, and an unsigned one is read as it is.
use Rattle.std.proofs.Common.{◌≡◌, get_or, true, false, ◌==◌, drop, unwrap_or, sym, ap, ◌∙◌}
use Rattle.fast_float.specs.Text.{scan}
use Rattle.serde_json.specs.Data.{unsigned}
use Rattle.serde_json.specs.Read.{number_of, number_from}
use Rattle.sno_document.specs.Document.{rounds_in}
use Rattle.sno_document.proofs.RoundLemmas.{signed_rounds}
use Rattle.sno_document.proofs.rounds.rounds_in.Goals as goal

pub returns-then-has_minus : goal.returns-then-has_minus
unfolding number_of
returns-then-has_minus c =
    let s = c.as_bytes-bytes.result.now in
    let signed : (get_or s 0 0 == 45) ≡ true = sym c.if-has_minus.ensures.value in
    let read : number_from true (scan (drop 1 s)) ≡ number_of s = rw signed in
    sym (signed_rounds (scan (drop 1 s))) ∙ ap (λ n. rounds_in (unwrap_or n (unsigned 0))) (read ∙ ap number_of c.as_bytes-bytes.ensures.value)

pub returns-else-has_minus : goal.returns-else-has_minus
unfolding number_of
returns-else-has_minus c =
    let s = c.as_bytes-bytes.result.now in
    let unsigned_text : (get_or s 0 0 == 45) ≡ false = sym c.if-has_minus.ensures.value in
    let read : number_from false (scan s) ≡ number_of s = rw unsigned_text in
    c.unsigned_rounds.ensures
    ∙ ap (λ n. rounds_in (unwrap_or n (unsigned 0))) (ap (number_from false) c.scan.ensures.parts ∙ read ∙ ap number_of c.as_bytes-bytes.ensures.value)
