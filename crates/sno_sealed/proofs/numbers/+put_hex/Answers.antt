-- One digit more.
use Rattle.std.proofs.Common.{◌≡◌, sym, ◌∙◌, ap, arith, ℕ, ◌-◌, ◌/◌, ◌%◌, List, [], ◌∷◌, ◌++◌, append_assoc}
use Rattle.sno_sealed.specs.Seals.{hex, hex_digit}
use Rattle.sno_sealed.proofs.SealLemmas.{hex_step}
use Rattle.sno_sealed.proofs.numbers.+put_hex.Goals as goal

pub returns : goal.returns
returns bound c =
    let old = c.args.out.now.items in
    let n = c.args.number in
    let k = c.args.count in
    c.in_ok-push.ensures.items ∙ ap (λ (l : List ℕ). l ++ c.hex_digit.result ∷ []) c.in_ok-put_hex.ensures
    ∙ ap (λ (d : ℕ). (old ++ hex (k - 1) (n / 16)) ++ d ∷ []) c.hex_digit.ensures
    ∙ append_assoc old (hex (k - 1) (n / 16)) (hex_digit (n % 16) ∷ []) ∙ ap (λ (l : List ℕ). old ++ l) (sym (hex_step k n (omega (arith, c.if-count-eq0.false))))
