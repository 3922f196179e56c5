-- A word of bits, and the table of two.
use Rattle.std.proofs.Common.{◌≡◌, ℕ, zero, suc, ◌+◌, ◌-◌, ◌*◌, ◌/◌, ◌%◌, ◌^◌, ◌<◌, ◌≤◌, Bool, true, false, ◌||◌, List, [], ◌∷◌, length, take, get_or, slice_index, nat_eq, bit_or, refl, ap, sym, ◌∙◌, arith, inl, inr, w64, ◌⊎◌, eq-eqb, zero-add}
use Rattle.std.specs.Char.{is_ascii}
use Rattle.std.specs.List.{list_all}
use Rattle.std.proofs.lemmas.Bool.{ne_eqb, and_parts, ltb-true, cases_lt}
use Rattle.std.proofs.lemmas.Bool.Decides.{eqb_tells}
use Rattle.std.proofs.lemmas.List.Folds.{list_any_more}
use Rattle.std.proofs.lemmas.Nat.Bits.{bit_at-zero, bit_at_set_same, bit_at_set_other}
use Rattle.sno_pattern.specs.Classes.{has}
use Rattle.sno_pattern.specs.Tables.{is_set}

-- the bits of the members
abbrev pub Tells : ℕ → List ℕ → ℕ → Type 0
Tells word members first = (place : ℕ) → place < 64 → is_set word place ≡ has members (first + place)

or_true : (b : Bool) → (b || true) ≡ true
or_true true = refl
or_true false = refl

or_false : (b : Bool) → (b || false) ≡ b
or_false true = refl
or_false false = refl

pub none_told : (first : ℕ) → Tells 0 [] first
none_told first place below = ap (λ b. nat_eq b 1) (bit_at-zero place)

module _ (word : ℕ) (members : List ℕ) (first i : ℕ) (more : i < length members) (told : Tells word (take i members) first) where
  same : (place : ℕ) → get_or members i 0 ≡ first + place → has (take (i + 1) members) (first + place) ≡ true
  same place is =
      list_any_more (λ m. nat_eq m (first + place)) members i 0 more
      ∙ ap (λ b. has (take i members) (first + place) || b) (eq-eqb (get_or members i 0) (first + place) is)
      ∙ or_true (has (take i members) (first + place))

  other : (place : ℕ) → (get_or members i 0 ≡ first + place → ⊥) → has (take (i + 1) members) (first + place) ≡ has (take i members) (first + place)
  other place isnt =
      list_any_more (λ m. nat_eq m (first + place)) members i 0 more
      ∙ ap (λ b. has (take i members) (first + place) || b) (ne_eqb (get_or members i 0) (first + place) isnt)
      ∙ or_false (has (take i members) (first + place))

  -- a character that these bits say nothing of
  pub outside : (new : ℕ) → new ≡ word → (get_or members i 0 < first) ⊎ (first + 64 ≤ get_or members i 0) → Tells new (take (i + 1) members) first
  outside new same_word far place below =
      ap (λ v. is_set v place) same_word
      ∙ told place below
      ∙ sym (other place (λ is. elim far [ inl h ↦ omega arith | inr h ↦ omega arith ]))

  -- and a character whose bit is set
  pub inside : (new at : ℕ) → new ≡ bit_or word (1 * 2 ^ at % 2 ^ 64) → at ≡ get_or members i 0 - first → first ≤ get_or members i 0 → at < 64 → Tells new (take (i + 1) members) first
  inside new at with_it is low below place lower =
      ap (λ v. is_set v place) with_it
      ∙ elim (eqb_tells place at) [
        | inl e ↦
            ap (λ k. is_set (bit_or word (1 * 2 ^ at % 2 ^ 64)) k) e.1
            ∙ ap (λ b. nat_eq b 1) (bit_at_set_same w64 word at below)
            ∙ sym (same place (let here : place ≡ at = e.1 in omega arith))
        | inr e ↦
            ap (λ b. nat_eq b 1) (bit_at_set_other w64 word at below place e.1)
            ∙ told place lower
            ∙ sym (other place (λ there. e.1 (omega arith)))
      ]

-- no member is above 127
none_above : (members : List ℕ) (x : ℕ) → list_all is_ascii members ≡ true → 128 ≤ x → has members x ≡ false
none_above [] x h high = refl
none_above (m ∷ members) x h high =
    let both = and_parts (is_ascii m) (list_all is_ascii members) h in
    let low : m < 128 = ltb-true m 128 both.0 in
    ap (λ b. b || has members x) (ne_eqb m x (λ is. omega arith)) ∙ none_above members x both.1 high

-- the words of a table
abbrev pub words : ℕ → ℕ → List ℕ
words low high = low ∷ high ∷ 0 ∷ 0 ∷ []

-- beyond the first two there are no bits
beyond : (low high k : ℕ) → slice_index (words low high) (suc (suc k)) ≡ 0
beyond low high zero = refl
beyond low high (suc zero) = refl
beyond low high (suc (suc k)) = refl

-- the two words cover every character
by_words : (members : List ℕ) (low high x : ℕ) → list_all is_ascii members ≡ true → Tells low members 0 → Tells high members 64
    → (x < 64) ⊎ (64 ≤ x) → (x < 128) ⊎ (128 ≤ x) → is_set (slice_index (words low high) (x / 64)) (x % 64) ≡ has members x
by_words members low high x h told_low told_high (inl a) b =
    let word : x / 64 ≡ 0 = omega arith in
    let place : x % 64 ≡ x = omega arith in
    ap (λ k. is_set (slice_index (words low high) k) (x % 64)) word
    ∙ ap (is_set low) place
    ∙ told_low x a
    ∙ ap (has members) (zero-add x)
by_words members low high x h told_low told_high (inr a) (inl b) =
    let word : x / 64 ≡ 1 = omega arith in
    let place : x % 64 ≡ x - 64 = omega arith in
    let there : 64 + (x - 64) ≡ x = omega arith in
    ap (λ k. is_set (slice_index (words low high) k) (x % 64)) word
    ∙ ap (is_set high) place
    ∙ told_high (x - 64) (omega arith)
    ∙ ap (has members) there
by_words members low high x h told_low told_high (inr a) (inr b) =
    let word : x / 64 ≡ suc (suc (x / 64 - 2)) = omega arith in
    ap (λ k. is_set (slice_index (words low high) k) (x % 64)) word
    ∙ ap (λ w. is_set w (x % 64)) (beyond low high (x / 64 - 2))
    ∙ ap (λ n. nat_eq n 1) (bit_at-zero (x % 64))
    ∙ sym (none_above members x h b)

pub table_is : (members : List ℕ) (low high : ℕ) → list_all is_ascii members ≡ true → Tells low members 0 → Tells high members 64
    → (x : ℕ) → is_set (slice_index (words low high) (x / 64)) (x % 64) ≡ has members x
table_is members low high h told_low told_high x = by_words members low high x h told_low told_high (cases_lt x 64) (cases_lt x 128)
