-- What a table of runs is right for.
use Rattle.std.specs.Prelude.{◌≡◌, ℕ, ◌+◌, ◌/◌, List, length}
use Rattle.sno_primitives.specs.Runs.{AreRunEnds}
use Rattle.sno_primitives.specs.declared.run_ends.RunEnds.{RunEnds}

-- the table has an entry for each block of the text, and each is right
pub record IsOfText (t : List ℕ) (runs : RunEnds) : Type 0 where
  pub whole : length runs.ends.items ≡ length t / 64 + 1
  pub right : AreRunEnds runs.inside runs.set.now t 0 runs.ends.items
