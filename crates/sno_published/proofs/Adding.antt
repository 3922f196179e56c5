-- The step that adds an entry keeps the rule of a history.
use Rattle.std.proofs.Common.{◌≡◌, ℕ, ◌+◌, ◌<◌, ◌==◌, Bool, true, false, List, [], ◌∷◌, ◌++◌, length, refl, ap, sym, subst, arith, inl, length-append, None}
use Rattle.std.proofs.lemmas.List.{append-nil}
use Rattle.std.proofs.lemmas.Bool.Decides.{nat_tests}
use mathlib.Core.List.{IsPrefix}
use prog.Atomic.{either}
use Rattle.logbook.specs.Pages.{Cell, cell, keeps, no_nib, step, Moves, Goes}
use Rattle.sno_book.specs.Entries.{Entry}
use Rattle.sno_published.specs.HistoryRule.{IsCounted, Adds}
use Rattle.sno_published.proofs.Prefixes.{prefix_whole}

abbrev shown : List Entry → List Entry
shown log = []

abbrev moved : List Entry → List Entry → ℕ → Type 0
moved before after result = Unit {0}

-- if the word is the number that was seen, the entry is added to what was seen; otherwise nothing is added, and all is
-- seen
adds_goes : (log seen : List Entry) (e : Entry) (count : ℕ) → length seen ≡ count → IsPrefix seen log → (b : Bool) → (length log == count) ≡ b
    → Goes IsCounted shown moved 0 (seen, (no_nib, None)) (λ n. either (n == count) (count + 1) n) (Adds (step 0 count (count + 1) e) (seen, (no_nib, None))) ((length log, true) ∷ (0, true) ∷ []) log
adds_goes log seen e count long begins true is =
    let here : length log ≡ count = grind (arith, nat_tests) in
    let same : seen ≡ log = prefix_whole seen log begins (omega arith) in
    let counted : either (length log == count) (count + 1) (length log) ≡ length (log ++ e ∷ []) = rw is (omega (arith, length-append log (e ∷ []))) in (
      keeps,
      e ∷ [],
      None,
      tt,
      ap (λ (k : ℕ). (k, true) ∷ (0, true) ∷ []) counted,
      inl (refl, refl),
      rw is (ap (λ w. w ++ e ∷ []) (sym same)),
    )
adds_goes log seen e count long begins false is =
    let all : log ++ [] ≡ log = append-nil log in
    let counted : either (length log == count) (count + 1) (length log) ≡ length (log ++ []) = rw is (ap length (sym all)) in (
      keeps,
      [],
      None,
      tt,
      ap (λ (k : ℕ). (k, true) ∷ (0, true) ∷ []) counted,
      inl (refl, refl),
      rw is (ap length all),
    )

-- whatever the history is, the step can go on
pub adds_moves : (seen : List Entry) (e : Entry) (count : ℕ) → length seen ≡ count
    → Moves IsCounted shown moved 0 (seen, (no_nib, None)) (λ n. either (n == count) (count + 1) n) (Adds (step 0 count (count + 1) e) (seen, (no_nib, None)))
adds_moves seen e count long cells log kept begins away =
    let P : List Cell → Type 0 =
    λ c. (0 < length c) × ((cell c 0).1 ≡ true)
    × Goes IsCounted shown moved 0 (seen, (no_nib, None)) (λ n. either (n == count) (count + 1) n) (Adds (step 0 count (count + 1) e) (seen, (no_nib, None))) c log in
    subst P (sym kept) (omega arith, refl, adds_goes log seen e count long begins (length log == count) refl)
