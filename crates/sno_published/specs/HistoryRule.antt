-- The rule of a history, and what a step on it says.
use Rattle.std.specs.Prelude.{◌≡◌, ◌==◌, ℕ, true, List, [], ◌∷◌, ◌++◌, length, MatchBool}
use Rattle.logbook.specs.Pages.{Cell, Step, View, Book, Named}
use Rattle.sno_book.specs.Entries.{Entry}

-- the first word is the number of entries; the second one isn't used
abbrev pub IsCounted : List Cell → List Entry → Type 0
IsCounted cells log = cells ≡ (length log, true) ∷ (0, true) ∷ []

-- the first word of a history
abbrev pub length_of : Book → Named
length_of history = record { tracked = true; key = 0; book = history }

-- either the entry was added to all that had been seen; or the history had another length, and all of it was seen
abbrev pub Adds : Step Entry → View Entry ℕ → ℕ → View Entry ℕ → Type 0
Adds s before found after = MatchBool (found == s.old) (after.0 ≡ before.0 ++ s.ask ∷ []) (length after.0 ≡ found)
