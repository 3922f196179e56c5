-- What a table of first ends is right for, and what a short walk finds.
use Rattle.std.specs.Prelude.{◌≡◌, ℕ, ◌<◌, ◌≤◌, List, [], ◌∷◌, length}
use Rattle.sno_pattern.specs.Ends.{bal_ends}
use Rattle.sno_primitives.specs.Mates.{AreFirstEnds}
use Rattle.sno_primitives.specs.declared.mates.Mates.{Mates}
use Rattle.sno_primitives.specs.declared.balance.Walk.{Walk}
use Rattle.sno_primitives.specs.declared.balance.Walk.TheVariants as walk

-- the table has an entry for each character of the text, and each is right
pub record AreOfText (t : List ℕ) (mates : Mates) : Type 0 where
  pub whole : length mates.ends.items ≡ length t
  pub right : AreFirstEnds t 0 mates.ends.items

-- what a walk from a cursor has found of BAL
abbrev pub HasFound : List ℕ → ℕ → Walk → Type 0
HasFound t c (walk.Ended e) = (bal_ends t c ≡ e ∷ bal_ends t e) × (c < e) × (e ≤ length t)
HasFound t c walk.Never = bal_ends t c ≡ []
HasFound t c walk.Further = Unit {0}
