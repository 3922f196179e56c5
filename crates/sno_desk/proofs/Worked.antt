-- What all seats of a desk have left, from what each of them has left.
use Rattle.std.proofs.Common.{◌≡◌, ◌<◌, ℕ, ◌+◌, List, [], ◌∷◌, ◌++◌, length, get_or, map, take, refl, ap, sym, subst, ◌∙◌, arith}
use Rattle.std.proofs.lemmas.List.{length-map}
use Rattle.std.proofs.Math.Seq.{take-append_seam}
use Rattle.std.proofs.lemmas.List.Elements.{All-map}
use Rattle.std.proofs.lemmas.List.Sums.{sum_by-cons}
use Rattle.std.specs.List.{All}
use Rattle.std.specs.Prelude.{sum_by}
use mathlib.Core.List.{IsPrefix as Begins}
use Rattle.sno_book.specs.Entries.{Entry}
use Rattle.sno_desk.specs.Turns.{Position, position}
use Rattle.sno_desk.specs.Worked.{HasWorkedAt}

-- a vector holds what was put into its slice
pub restored : {X : Type 0} (n : ℕ) (new more : List X) → n ≡ length new → take n (new ++ more) ≡ new
restored n new more e = ap (λ k. take k (new ++ more)) e ∙ take-append_seam new more

module _ {A : Type 0} (accepted : A → ℕ) (seen : A → List Entry) where
  -- the position of a seat
  abbrev at : A → Position
  at s = position (accepted s) (seen s)

  counted_alike : (seats : List A) → sum_by (λ p. p.accepted) (map at seats) ≡ sum_by accepted seats
  counted_alike [] = refl
  counted_alike (s ∷ seats) =
      let one = sum_by-cons (λ (p : Position). p.accepted) (at s) (map at seats) in
      let other = sum_by-cons accepted s seats in
      one ∙ ap (λ n. accepted s + n) (counted_alike seats) ∙ sym other

  -- a seat with nothing accepted and nothing seen is at the first position
  from_nothing : (takes : Position → Position → Type 0) (s : A) (p : Position) → (accepted s ≡ 0) × (seen s ≡ []) → takes (at s) p → takes (position 0 []) p
  from_nothing takes s p none taken =
      subst (λ n. takes (position n []) p) none.0 (subst (λ (l : List Entry). takes (position (accepted s) l) p) none.1 taken)

  pub worked_at : (takes : Position → Position → Type 0) (old new : List A) (journal : List Entry) (seats : ℕ)
      → length old ≡ seats → length new ≡ seats
      → All (λ s. (accepted s ≡ 0) × (seen s ≡ [])) old
      → ((k : ℕ) (d : A) → k < length old → takes (at (get_or old k d)) (at (get_or new k d)))
      → All (λ s. Begins (seen s) journal) new
      → length journal ≡ sum_by accepted new
      → HasWorkedAt takes seats journal
  worked_at takes old new journal seats many as_many none taken begun counted = record {
    left = map at new;
    many = rw length-map as_many;
    taken = All-map (λ p. takes (position 0 []) p) at new
        (λ k d lt. from_nothing takes (get_or old k d) (at (get_or new k d)) (none k d (omega (arith, many, as_many))) (taken k d (omega (arith, many, as_many))));
    seen = All-map (λ (p : Position). Begins p.seen journal) at new begun;
    counted = counted ∙ sym (counted_alike new);
  }
