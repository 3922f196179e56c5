-- Hits that are sorted by their places don't go back.
use Rattle.std.proofs.Common.{◌≡◌, ◌≤◌, ◌<◌, ℕ, ◌+◌, Bool, true, false, List, [], ◌∷◌, length, get_or, nat_lt, nat_eq, cond, refl, arith}
use Rattle.std.proofs.lemmas.Bool.{ltb-false}
use Rattle.std.proofs.lemmas.List.Elements.{All-head, All-tail}
use Rattle.std.proofs.lemmas.List.Sorted.{IsNonDecreasingBy-from_all_adjacent, IsNonDecreasingBy-drop}
use Rattle.std.specs.List.{All}
use Rattle.std.specs.List.Sorted.{IsNonDecreasingBy, IsSortedByKey}
use Rattle.std.specs.Ordering.{is_lt, nat_cmp, ordering_then}
use Rattle.std.specs.declared.cmp.Ordering.{Ordering}
use Rattle.std.specs.declared.cmp.Ordering.TheVariants.{Less, Equal, Greater}
use Rattle.sno_find.specs.Findings.{AreRising, Hit, by_place, place_of}
use Rattle.sno_find.proofs.Within.{StartsWithin}

-- what isn't before another by its first number has no smaller one
not_before : (a b : ℕ) (then_by : Ordering) → is_lt (ordering_then (nat_cmp a b) then_by) ≡ false → b ≤ a
not_before a b then_by h = ltb-false a b (by (nat_lt a b) (cond (nat_eq a b) Equal Greater) h)
  where
    by : (less : Bool) (other : Ordering) → is_lt (ordering_then (cond less Less other) then_by) ≡ false → less ≡ false
    by true other h = h
    by false other h = refl

rising_from : (bytes c : ℕ) (hit : Hit) (hits : List Hit) → c ≤ hit.found.start → All (StartsWithin bytes) (hit ∷ hits)
    → IsNonDecreasingBy (λ (h : Hit). h.found.start) (hit ∷ hits) → AreRising bytes c (hit ∷ hits)
rising_from bytes c hit [] le within up = (le, All-head (StartsWithin bytes) hit [] within, tt)
rising_from bytes c hit (next ∷ hits) le within up = (
  le,
  All-head (StartsWithin bytes) hit (next ∷ hits) within,
  rising_from bytes hit.found.start next hits (up 0 1 hit (omega arith) (omega arith)) (All-tail (StartsWithin bytes) hit (next ∷ hits) within)
      (IsNonDecreasingBy-drop (λ (h : Hit). h.found.start) 1 (hit ∷ next ∷ hits) up),
)

pub rising : (bytes : ℕ) (hits : List Hit) → All (StartsWithin bytes) hits → IsSortedByKey place_of by_place hits → AreRising bytes 0 hits
rising bytes [] within sorted = tt
rising bytes (hit ∷ hits) within sorted = rising_from bytes 0 hit hits (omega arith) within up
  where
    pair : (k : ℕ) (d : Hit) → k + 1 < length (hit ∷ hits) → (get_or (hit ∷ hits) k d).found.start ≤ (get_or (hit ∷ hits) (k + 1) d).found.start
    pair k d high =
        let later : Hit = get_or (hit ∷ hits) (k + 1) d in
        let here : Hit = get_or (hit ∷ hits) k d in
        not_before later.found.start here.found.start (nat_cmp later.statement here.statement) (sorted k d (omega arith) high)

    up : IsNonDecreasingBy (λ (h : Hit). h.found.start) (hit ∷ hits)
    up = IsNonDecreasingBy-from_all_adjacent (λ (h : Hit). h.found.start) (hit ∷ hits) pair
