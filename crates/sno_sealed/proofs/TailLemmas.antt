-- Where bytes are, and what a tail says up to each line feed.
use Rattle.std.proofs.Common.{◌≡◌, inl, inr, refl, sym, ◌∙◌, ap, arith, ℕ, zero, suc, ◌+◌, ◌<◌, ◌≤◌, Bool, true, false, List, [], ◌∷◌, ◌++◌, append_assoc, length, take, drop, get_or, slice_index, ◌==◌, take-append-drop}
use Rattle.std.proofs.lemmas.List.{append-nil, drop_more, take_all}
use Rattle.std.proofs.lemmas.Bool.{cases_Bool}
use Rattle.std.specs.List.{list_all}
use Rattle.sno_store.specs.Lines.{IsPlain}
use Rattle.memchr.specs.Find.{is_byte2}
use Rattle.sno_store.proofs.Splits.{plain_below}
use Rattle.sno_sealed.specs.Tails.{after, after_last, before, ends_batch, has, is_other, is_tear_on}

pub has_none : (b : ℕ) (xs : List ℕ) → ((k : ℕ) → 0 ≤ k → k < length xs → (slice_index xs k == b) ≡ true → ⊥) → has b xs ≡ false
has_none b [] none = refl
has_none b (x ∷ xs) none = elim (cases_Bool (x == b)) [
  | inl same ↦ absurd (none 0 (omega arith) (omega arith) same)
  | inr other ↦ rw other (has_none b xs (λ k low high. none (suc k) (omega arith) (omega arith)))
]

pub first_at : (b : ℕ) (xs : List ℕ) (k : ℕ) → k < length xs → ((j : ℕ) → 0 ≤ j → j < k → (slice_index xs j == b) ≡ true → ⊥) → (slice_index xs k == b) ≡ true
    → (has b xs ≡ true) × (take k xs ≡ before b xs) × (drop (k + 1) xs ≡ after b xs)
first_at b [] k low none is = absurd (omega arith)
first_at b (x ∷ xs) zero low none is = (rw is refl, rw is refl, rw is refl)
first_at b (x ∷ xs) (suc k) low none is = elim (cases_Bool (x == b)) [
  | inl same ↦ absurd (none 0 (omega arith) (omega arith) same)
  | inr other ↦
      let later = first_at b xs k (omega arith) (λ j l h. none (suc j) (omega arith) (omega arith)) is in
      let e : suc k + 1 ≡ suc (k + 1) = omega arith in
      (rw other later.0, rw other (ap (λ (l : List ℕ). x ∷ l) later.1), rw (e, other) later.2)
]

pub last_at : (b : ℕ) (xs : List ℕ) (k : ℕ) → k < length xs → ((j : ℕ) → k + 1 ≤ j → j < length xs → (slice_index xs j == b) ≡ true → ⊥) → (slice_index xs k == b) ≡ true
    → (has b xs ≡ true) × (drop (k + 1) xs ≡ after_last b xs)
last_at b [] k low none is = absurd (omega arith)
last_at b (x ∷ xs) zero low none is =
    let n = has_none b xs (λ j l h. none (suc j) (omega arith) (omega arith)) in
    (rw is refl, rw n refl)
last_at b (x ∷ xs) (suc k) low none is =
    let later = last_at b xs k (omega arith) (λ j l h. none (suc j) (omega arith) (omega arith)) is in
    let e : suc k + 1 ≡ suc (k + 1) = omega arith in
    (elim (cases_Bool (x == b)) [ inl same ↦ rw same refl | inr other ↦ rw other later.0 ], rw (e, later.0) later.1)

-- no byte before this place is a line feed or a NUL
abbrev NoneBelow : List ℕ → ℕ → Type 0
NoneBelow xs k = (j : ℕ) → j < k → is_byte2 10 0 (get_or xs j 0) ≡ true → ⊥

module _ (first : List ℕ) (lines begins : Bool) where
  walk : (piece xs rest : List ℕ) → IsPlain xs → is_tear_on first lines begins piece (xs ++ rest) ≡ is_tear_on first lines begins (piece ++ xs) rest
  walk piece [] rest plain = ap (λ (p : List ℕ). is_tear_on first lines begins p rest) (sym (append-nil piece))
  walk piece (x ∷ xs) rest plain =
      rw (plain.0, plain.1) (walk (piece ++ x ∷ []) xs rest plain.2 ∙ ap (λ (p : List ℕ). is_tear_on first lines begins p rest) (append_assoc piece (x ∷ []) xs))

  pub no_break : (xs : List ℕ) → NoneBelow xs (length xs) → is_tear_on first lines begins [] xs ≡ true
  no_break xs none =
      let all : take (length xs) xs ≡ xs = take_all (length xs) xs (omega arith) in
      let plain : IsPlain xs = rw all at (plain_below xs (length xs) none (omega arith)) in
      ap (λ (l : List ℕ). is_tear_on first lines begins [] l) (sym (append-nil xs)) ∙ walk [] xs [] plain

  module _ (xs : List ℕ) (k : ℕ) (low : k < length xs) (none : NoneBelow xs k) where
    at_break : (b : ℕ) → get_or xs k 0 ≡ b → is_tear_on first lines begins [] xs ≡ is_tear_on first lines begins (take k xs) (b ∷ drop (k + 1) xs)
    at_break b is =
        ap (λ (l : List ℕ). is_tear_on first lines begins [] l)
        (sym (take-append-drop k xs) ∙ ap (λ (l : List ℕ). take k xs ++ l) (drop_more xs k 0 low ∙ ap (λ (x : ℕ). x ∷ drop (k + 1) xs) is))
        ∙ walk [] (take k xs) (b ∷ drop (k + 1) xs) (plain_below xs k none (omega (arith, low)))

    pub at_nul : get_or xs k 0 ≡ 0 → is_tear_on first lines begins [] xs ≡ is_tear_on first lines false [] (drop (k + 1) xs)
    at_nul is = at_break 0 is

    pub at_other : get_or xs k 0 ≡ 10 → is_other first begins (take k xs) ≡ true → is_tear_on first lines begins [] xs ≡ false
    at_other is other = at_break 10 is ∙ rw other refl

    pub at_end : get_or xs k 0 ≡ 10 → is_other first begins (take k xs) ≡ false → ends_batch (take k xs) ≡ true
        → is_tear_on first lines begins [] xs ≡ list_all (λ x. x == 0) (drop (k + 1) xs)
    at_end is own ends = at_break 10 is ∙ rw (own, ends) refl

    pub at_line : get_or xs k 0 ≡ 10 → is_other first begins (take k xs) ≡ false → ends_batch (take k xs) ≡ false
        → is_tear_on first lines begins [] xs ≡ is_tear_on first lines lines [] (drop (k + 1) xs)
    at_line is own more = at_break 10 is ∙ rw (own, more) refl
