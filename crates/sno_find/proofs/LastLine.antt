-- The last line, from its end on.
use Rattle.std.proofs.Common.{◌≡◌, ◌≤◌, ◌<◌, ◌+◌, ◌-◌, ℕ, Bool, true, false, if◌then◌else◌, List, [], ◌∷◌, ◌++◌, length, take, drop, get_or, ap, subst, sym, ◌∙◌, arith, append_assoc}
use Rattle.std.proofs.lemmas.List.{at_drop_more, take_more}
use Rattle.sno_edit.specs.Positions.{last_line}
use Rattle.sno_edit.specs.Scripts.{is_line_feed}
use Rattle.sno_edit.proofs.PositionLemmas.{last_line_more}

module _ (bytes : List ℕ) where
  more : (i : ℕ) (feed : Bool) → i < length bytes → is_line_feed (get_or bytes i 0) ≡ feed
      → last_line (take (i + 1) bytes) ≡ (if feed then [] else last_line (take i bytes) ++ get_or bytes i 0 ∷ [])
  more i feed inside is =
      ap last_line (take_more bytes i 0 inside) ∙ last_line_more (take i bytes) (get_or bytes i 0)
      ∙ ap (λ (b : Bool). if b then [] else last_line (take i bytes) ++ get_or bytes i 0 ∷ []) is

  one_less : (i : ℕ) → i < length bytes → is_line_feed (get_or bytes i 0) ≡ false → last_line (take i bytes) ++ drop i bytes ≡ last_line (take (i + 1) bytes) ++ drop (i + 1) bytes
  one_less i inside other =
      let rest : drop i bytes ≡ get_or bytes i 0 ∷ drop (i + 1) bytes = at_drop_more (λ (r : List ℕ). r) bytes i 0 inside in
      ap (λ (r : List ℕ). last_line (take i bytes) ++ r) rest
      ∙ sym (append_assoc (last_line (take i bytes)) (get_or bytes i 0 ∷ []) (drop (i + 1) bytes))
      ∙ sym (ap (λ (l : List ℕ). l ++ drop (i + 1) bytes) (more i false inside other))

  -- a byte before the end of what was gone over, if it is no line feed
  pub one_before : (start : ℕ) → 0 < start → start ≤ length bytes → is_line_feed (get_or bytes (start - 1) 0) ≡ false
      → last_line (take (start - 1) bytes) ++ drop (start - 1) bytes ≡ last_line (take start bytes) ++ drop start bytes
  one_before start some within other =
      let same : start - 1 + 1 ≡ start = omega (arith, some) in
      let inside : start - 1 < length bytes = omega (arith, some, within) in
      subst (λ (n : ℕ). last_line (take (start - 1) bytes) ++ drop (start - 1) bytes ≡ last_line (take n bytes) ++ drop n bytes) same (one_less (start - 1) inside other)

  -- a line feed ends what comes before
  pub feed_before : (start : ℕ) → 0 < start → start ≤ length bytes → is_line_feed (get_or bytes (start - 1) 0) ≡ true → last_line (take start bytes) ≡ []
  feed_before start some within feed =
      let same : start - 1 + 1 ≡ start = omega (arith, some) in
      let inside : start - 1 < length bytes = omega (arith, some, within) in
      subst (λ (n : ℕ). last_line (take n bytes) ≡ []) same (more (start - 1) true inside feed)
