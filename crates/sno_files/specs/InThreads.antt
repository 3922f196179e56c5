-- What calls with paths returned.
use Rattle.std.specs.Prelude.{◌≡◌, ◌⊎◌, ℕ, List, None, Some, Contains, IfSome, slice_get}
use denote.Ref.{Bor}
use denote.Param.Members.{Shared}
use Rattle.sno_files.specs.declared.in_threads.Numbered.{Numbered}
use Rattle.sno_files.specs.declared.in_threads.Place.{Place}

module _ {F X : Type 0} (g : Shared F (Bor (List ℕ) × Unit {0}) X) (f : F) where
  -- the new place has the path of the old one, and what a call of f with that path may return
  abbrev pub IsDone : Place X → Place X → Type 0
  IsDone old new = (new.path ≡ old.path) × (r : X) × (new.result ≡ Some r) × g.post f (old.path, tt) r

  -- the new place has the path of the old one; what it has of a result, a call of f with that path may return
  abbrev pub IsBegun : Place X → Place X → Type 0
  IsBegun old new = (new.path ≡ old.path) × IfSome new.result (λ r. g.post f (old.path, tt) r)

  -- the result is one that a call of f with the path of the place of that number may return
  abbrev pub IsCalled : List (Place X) → Numbered X → Type 0
  IsCalled places one = (place : Place X) × (slice_get places one.number ≡ Some place) × g.post f (place.path, tt) one.result

-- the new place has the path of the old one, and no result
abbrev pub IsEmptied : {X : Type 0} → Place X → Place X → Type 0
IsEmptied old new = (new.path ≡ old.path) × (new.result ≡ None)

-- place i has its path, and its old result or that of its number among these
abbrev pub IsPut : {X : Type 0} → List (Numbered X) → ℕ → Place X → Place X → Type 0
IsPut {X} results i old new =
    (new.path ≡ old.path)
    × ((new.result ≡ old.result) ⊎ ((r : X) × (new.result ≡ Some r) × Contains results (record { number = i; result = r })))
