-- Two lists compared element by element.
use Rattle.std.proofs.Common.{◌≡◌, ℕ, zero, suc, ◌+◌, ◌<◌, ◌≤◌, Bool, true, false, ◌&&◌, List, [], ◌∷◌, length, drop, slice_get, refl, ap, ◌∙◌, arith, add-one}
use Rattle.std.proofs.lemmas.List.{drop_all}
use Rattle.std.specs.Option.{option_eq}
use Rattle.std.specs.List.{list_all, zip}
use Rattle.std.specs.Cmp.Lexicographic.{pointwise}

-- lists of the same length, as pairs
pub zipped : {A B : Type 0} (E : A → B → Bool) (a : List A) (b : List B) → length a ≡ length b → list_all (λ p. E p.0 p.1) (zip a b) ≡ pointwise E a b
zipped E [] [] h = refl
zipped E [] (y ∷ b) h = absurd (omega (arith, h))
zipped E (x ∷ a) [] h = absurd (omega (arith, h))
zipped E (x ∷ a) (y ∷ b) h = ap (λ (t : Bool). E x y && t) (zipped E a b (omega (arith, h)))

-- lists of different lengths
pub apart : {A : Type 0} (E : A → A → Bool) (a b : List A) → (length a ≡ length b → ⊥) → pointwise E a b ≡ false
apart E [] [] h = absurd (h refl)
apart E [] (y ∷ b) h = refl
apart E (x ∷ a) [] h = refl
apart E (x ∷ a) (y ∷ b) h = unlike (E x y) (pointwise E a b) (apart E a b (λ (e : length a ≡ length b). h (ap (λ (n : ℕ). suc n) e)))
  where
    unlike : (t u : Bool) → u ≡ false → t && u ≡ false
    unlike true u e = e
    unlike false u e = refl

-- from the place i on: the element at i, and then the rest
pub at_place : {A : Type 0} (E : A → A → Bool) (a b : List A) (i : ℕ) → i < length a → i < length b
    → pointwise E (drop i a) (drop i b) ≡ option_eq E (slice_get a i) (slice_get b i) && pointwise E (drop (suc i) a) (drop (suc i) b)
at_place E [] b i h k = absurd (omega (arith, h))
at_place E (x ∷ a) [] i h k = absurd (omega (arith, k))
at_place E (x ∷ a) (y ∷ b) zero h k = refl
at_place E (x ∷ a) (y ∷ b) (suc i) h k = at_place E a b i (omega (arith, h)) (omega (arith, k))

-- the comparison from i on, if the elements at i are the same
pub past_place : {A : Type 0} (E : A → A → Bool) (a b : List A) (i : ℕ) → i < length a → i < length b → option_eq E (slice_get a i) (slice_get b i) ≡ true
    → pointwise E (drop i a) (drop i b) ≡ pointwise E (drop (i + 1) a) (drop (i + 1) b)
past_place E a b i h k same = rw add-one (at_place E a b i h k ∙ ap (λ (t : Bool). t && pointwise E (drop (suc i) a) (drop (suc i) b)) same)

-- and if they aren't
pub stop_place : {A : Type 0} (E : A → A → Bool) (a b : List A) (i : ℕ) → i < length a → i < length b → option_eq E (slice_get a i) (slice_get b i) ≡ false
    → pointwise E (drop i a) (drop i b) ≡ false
stop_place E a b i h k other = at_place E a b i h k ∙ ap (λ (t : Bool). t && pointwise E (drop (suc i) a) (drop (suc i) b)) other

-- no place is left
pub no_place : {A : Type 0} (E : A → A → Bool) (a b : List A) (i : ℕ) → length a ≤ i → length b ≤ i → pointwise E (drop i a) (drop i b) ≡ true
no_place E a b i h k = rw (drop_all i a h, drop_all i b k) refl
