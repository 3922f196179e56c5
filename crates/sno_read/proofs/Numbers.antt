-- One digit more.
use Rattle.std.proofs.Common.{◌≡◌, ℕ, ◌+◌, ◌-◌, ◌*◌, ◌<◌, ◌≤◌, List, ◌∷◌, length, get_or, drop, ltb, Option, Some, None, cond, sym, ap, ◌∙◌, arith}
use Rattle.std.proofs.lemmas.Bool.Decides.{nat_tests}
use Rattle.std.proofs.lemmas.List.{at_drop_more, at_drop_all}
use Rattle.sno_read.specs.Characters.{number_from}

-- the value with one digit more, from what the calls gave
pub value_same : (n d s w : ℕ) → s ≡ d - 48 → w ≡ s → n * 10 + w ≡ n * 10 + (d - 48)
value_same n d s w e f = ap (λ k. n * 10 + k) (f ∙ e)

at_digit : (n d v : ℕ) (ds : List ℕ) → v ≡ n * 10 + (d - 48) → number_from n (d ∷ ds) ≡ cond (ltb 65536 v) None (number_from v ds)
unfolding number_from
at_digit n d v ds e = ap (λ k. cond (ltb 65536 k) None (number_from k ds)) (sym e)

too_large : (v : ℕ) (x : Option ℕ) → 65536 < v → cond (ltb 65536 v) None x ≡ None
too_large v x h = grind (arith, nat_tests)

small : (v : ℕ) (x : Option ℕ) → v ≤ 65536 → cond (ltb 65536 v) None x ≡ x
small v x h = grind (arith, nat_tests)

pub digit_over : (n i v : ℕ) (ds : List ℕ) (whole : Option ℕ) → i < length ds → v ≡ n * 10 + (get_or ds i 0 - 48) → number_from n (drop i ds) ≡ whole → 65536 < v → None ≡ whole
digit_over n i v ds whole h e inv over = sym (sym inv ∙ at_drop_more (number_from n) ds i 0 h ∙ at_digit n (get_or ds i 0) v (drop (i + 1) ds) e ∙ too_large v _ over)

pub digit_in : (n i v : ℕ) (ds : List ℕ) (whole : Option ℕ) → i < length ds → v ≡ n * 10 + (get_or ds i 0 - 48) → number_from n (drop i ds) ≡ whole → v ≤ 65536 → number_from v (drop (i + 1) ds) ≡ whole
digit_in n i v ds whole h e inv within = sym (sym inv ∙ at_drop_more (number_from n) ds i 0 h ∙ at_digit n (get_or ds i 0) v (drop (i + 1) ds) e ∙ small v _ within)

pub digits_end : (n i : ℕ) (ds : List ℕ) (whole : Option ℕ) → length ds ≤ i → number_from n (drop i ds) ≡ whole → Some n ≡ whole
unfolding number_from
digits_end n i ds whole h inv = sym (sym inv ∙ at_drop_all (number_from n) ds i h)
