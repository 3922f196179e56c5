-- The first sign of a text that is in no quotes, character by character.
use Rattle.std.proofs.Common.{◌≡◌, ℕ, zero, suc, ◌+◌, ◌<◌, ◌≤◌, ◌&&◌, Bool, true, false, List, ◌∷◌, length, get_or, drop, nat_eq, cond, refl, ap, sym, ◌∙◌, arith}
use Rattle.std.proofs.lemmas.List.{at_drop_more, at_drop_all}
use Rattle.sno_rules.specs.Lines.{before_sign, quote_after}

first_is : (b : Bool) (x : ℕ) → b ≡ true → cond b 0 x ≡ 0
first_is true x h = refl
first_is false x h = cc

first_is_not : (b : Bool) (x : ℕ) → b ≡ false → cond b 0 x ≡ x
first_is_not true x h = cc
first_is_not false x h = refl

one_more : (sign q c : ℕ) (cs : List ℕ) → before_sign sign q (c ∷ cs) ≡ cond (nat_eq q 0 && nat_eq c sign) 0 (suc (before_sign sign (quote_after q c) cs))
unfolding before_sign
one_more sign q c cs = refl

-- the character at this place is the sign
pub sign_here : (sign q i : ℕ) (t : List ℕ) → i < length t → (nat_eq q 0 && nat_eq (get_or t i 0) sign) ≡ true → before_sign sign q (drop i t) ≡ 0
sign_here sign q i t h is = at_drop_more (before_sign sign q) t i 0 h ∙ one_more sign q (get_or t i 0) (drop (i + 1) t) ∙ first_is _ _ is

-- it isn't
pub sign_later : (sign q i : ℕ) (t : List ℕ) → i < length t → (nat_eq q 0 && nat_eq (get_or t i 0) sign) ≡ false
    → before_sign sign q (drop i t) ≡ suc (before_sign sign (quote_after q (get_or t i 0)) (drop (i + 1) t))
sign_later sign q i t h is = at_drop_more (before_sign sign q) t i 0 h ∙ one_more sign q (get_or t i 0) (drop (i + 1) t) ∙ first_is_not _ _ is

-- no character is left
pub sign_nowhere : (sign q i : ℕ) (t : List ℕ) → length t ≤ i → before_sign sign q (drop i t) ≡ 0
unfolding before_sign
sign_nowhere sign q i t h = at_drop_all (before_sign sign q) t i h
