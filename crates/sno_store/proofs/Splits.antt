-- Lines by the first line feed or NUL of some bytes.
use Rattle.std.proofs.Common.{◌≡◌, inl, inr, ℕ, zero, suc, ◌+◌, ◌<◌, ◌≤◌, true, false, List, [], ◌∷◌, ◌++◌, length, take, drop, get_or, refl, sym, ◌∙◌, ap, arith, ◌==◌, take-append-drop}
use Rattle.std.proofs.lemmas.List.{drop_more, take_all}
use Rattle.std.proofs.lemmas.Bool.{cases_Bool}
use Rattle.std.proofs.lemmas.Bool.Decides.{nat_tests}
use Rattle.memchr.specs.Find.{is_byte2}
use Rattle.sno_store.specs.Lines.{lines_after, recovered, IsPlain, IsLine}
use Rattle.sno_store.proofs.Scans.{recovered-line, unended, ended_by_nul}

-- no byte before this place is a line feed or a NUL
abbrev NoneBelow : List ℕ → ℕ → Type 0
NoneBelow xs k = (j : ℕ) → j < k → is_byte2 10 0 (get_or xs j 0) ≡ true → ⊥

neither : (b : ℕ) → (is_byte2 10 0 b ≡ true → ⊥) → ((b == 10) ≡ false) × ((b == 0) ≡ false)
neither b refused = elim (cases_Bool (b == 10)) [
  | inl same ↦ absurd (refused (rw same refl))
  | inr other ↦ elim (cases_Bool (b == 0)) [
    | inl same ↦ absurd (refused (rw (other, same) refl))
    | inr more ↦ (other, more)
  ]
]

pub plain_below : (xs : List ℕ) (k : ℕ) → NoneBelow xs k → k ≤ length xs → IsPlain (take k xs)
plain_below xs zero none le = tt
plain_below [] (suc k) none le = absurd (omega arith)
plain_below (b ∷ xs) (suc k) none le =
    let n = neither b (none 0 (omega arith)) in
    (n.0, n.1, plain_below xs k (λ j low. none (suc j) (omega arith)) (omega arith))

at_place : (xs : List ℕ) (k d : ℕ) → k < length xs → get_or xs k 0 ≡ d → xs ≡ take k xs ++ d ∷ drop (k + 1) xs
at_place xs k d low is = sym (take-append-drop k xs) ∙ ap (λ (l : List ℕ). take k xs ++ l) (drop_more xs k 0 low ∙ ap (λ (x : ℕ). x ∷ drop (k + 1) xs) is)

line_below : (xs : List ℕ) (k : ℕ) → get_or xs 0 0 ≡ 123 → NoneBelow xs k → k < length xs → get_or xs k 0 ≡ 10 → IsLine (take k xs)
line_below [] k brace none low feed = absurd (omega arith)
line_below (b ∷ xs) zero brace none low feed = absurd (omega (arith, brace, feed))
line_below (b ∷ xs) (suc k) brace none low feed = (brace, (plain_below (b ∷ xs) (suc k) none (omega arith)).2)

-- the line that ends at the first line feed
pub found : (xs : List ℕ) (k : ℕ) → get_or xs 0 0 ≡ 123 → NoneBelow xs k → k < length xs → get_or xs k 0 ≡ 10
    → (xs ≡ take k xs ++ 10 ∷ drop (k + 1) xs) × (recovered xs ≡ take k xs ∷ recovered (drop (k + 1) xs))
found xs k brace none low feed =
    let is = at_place xs k 10 low feed in
    (is, ap recovered is ∙ recovered-line (take k xs) (drop (k + 1) xs) (line_below xs k brace none low feed))

pub not_begun : (xs : List ℕ) → ((get_or xs 0 0 == 123) ≡ false) → recovered xs ≡ []
not_begun [] other = refl
not_begun (b ∷ xs) other = rw other refl

pub cut_by_nul : (xs : List ℕ) (k : ℕ) → get_or xs 0 0 ≡ 123 → NoneBelow xs k → k < length xs → get_or xs k 0 ≡ 0 → recovered xs ≡ []
cut_by_nul [] k brace none low nul = absurd (omega arith)
cut_by_nul (b ∷ xs) zero brace none low nul = absurd (omega (arith, brace, nul))
cut_by_nul (b ∷ xs) (suc k) brace none low nul =
    ap (λ (x : ℕ). recovered (x ∷ xs)) brace ∙ ap (λ (l : List ℕ). lines_after (123 ∷ []) l) (at_place xs k 0 (omega arith) nul)
    ∙ ended_by_nul 123 [] (take k xs) (drop (k + 1) xs) (plain_below (b ∷ xs) (suc k) none (omega arith)).2

pub no_break : (xs : List ℕ) → get_or xs 0 0 ≡ 123 → NoneBelow xs (length xs) → IsLine xs
no_break [] brace none = absurd (omega (arith, brace))
no_break (b ∷ xs) brace none =
    let plain : IsPlain (take (suc (length xs)) (b ∷ xs)) = plain_below (b ∷ xs) (suc (length xs)) (λ j low. none j (omega arith)) (omega arith) in
    let all : take (length xs) xs ≡ xs = take_all (length xs) xs (omega arith) in
    (brace, rw all at plain.2)

pub not_ended : (xs : List ℕ) → get_or xs 0 0 ≡ 123 → NoneBelow xs (length xs) → recovered xs ≡ []
not_ended [] brace none = refl
not_ended (b ∷ xs) brace none =
    let is = no_break (b ∷ xs) brace none in
    ap (λ (x : ℕ). recovered (x ∷ xs)) brace ∙ unended 123 [] xs is.1

-- what a NUL or a line feed is that comes first
pub first_is_nul : (b : ℕ) → is_byte2 10 0 b ≡ true → (b ≡ 10 → ⊥) → b ≡ 0
first_is_nul b is other = grind (arith, nat_tests)
