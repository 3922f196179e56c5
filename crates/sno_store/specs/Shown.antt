-- What lines in memory, and those that are still to come, show.
use Rattle.std.specs.Prelude.{◌≡◌, ℕ, List, [], ◌∷◌, Option, Some, None}
use Rattle.sno_store.specs.declared.lines.Lines.{Lines}
use Rattle.sno_store.specs.declared.lines.LinesIter.{LinesIter}
use Rattle.sno_store.specs.Lines.{recovered}

-- the lines, each without its line feed
abbrev pub lines_in : Lines → List (List ℕ)
lines_in lines = recovered lines.bytes.items

-- the lines that are still to come
unfoldable pub lines_left : LinesIter → List (List ℕ)
lines_left iter = recovered iter.rest.now

-- the first line is given, or there is none, now and later
abbrev pub GivesLine : LinesIter → Option (List ℕ) → LinesIter → Type 0
GivesLine old None new = (lines_left old ≡ []) × (lines_left new ≡ [])
GivesLine old (Some line) new = lines_left old ≡ line ∷ lines_left new
