-- Where the cursors that a match assigns lie.
use Rattle.std.specs.Prelude.{ℕ, ◌≤◌, Bool, List, [], ◌∷◌, length}
use Rattle.sno_pattern.specs.Tree.{Tree}
use Rattle.sno_pattern.specs.Outcome.{outcome_at}
use Rattle.sno_pattern.specs.declared.events.What.{What}
use Rattle.sno_pattern.specs.declared.events.What.TheVariants.{Part, Cursor}
use Rattle.sno_pattern.specs.declared.events.Assign.{Assign}
use Rattle.sno_pattern.specs.declared.events.Event.{Event}
use Rattle.sno_pattern.specs.declared.events.Event.TheVariants.{Try, Set, End, Halt}

-- a cursor that is assigned lies within the text; nothing is said of a part
abbrev pub CursorLies : List ℕ → What → Type 0
CursorLies t (Part from to) = Unit {0}
CursorLies t (Cursor c) = c ≤ length t

-- this holds of each assignment done at once
abbrev pub CursorsLie : List ℕ → List Event → Type 0
CursorsLie t [] = Unit {0}
CursorsLie t (Try ∷ l) = CursorsLie t l
CursorsLie t (Set a ∷ l) = CursorLies t a.what × CursorsLie t l
CursorsLie t (End e a ∷ l) = CursorsLie t l
CursorsLie t (Halt ∷ l) = CursorsLie t l

abbrev pub SetsLie : List ℕ → List Assign → Type 0
SetsLie t [] = Unit {0}
SetsLie t (a ∷ sets) = CursorLies t a.what × SetsLie t sets

-- A cursor that a match assigns is a cursor of the text.
abbrev pub CursorsLieWithin : Type 0
CursorsLieWithin = (k : ℕ) (t : List ℕ) (bodies : List Tree) (p : Tree) (anchored : Bool) → SetsLie t (outcome_at t bodies k p anchored).sets
