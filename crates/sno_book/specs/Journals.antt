-- Journals: entries in order, each a step of the texts as those before it leave them.
use Rattle.std.specs.Prelude.{◌≡◌, List, [], ◌∷◌, Some, Ok}
use Rattle.sno_statement.specs.Perform.{perform}
use Rattle.sno_book.specs.States.{VersionedText, State, find, renew_by}
use Rattle.sno_book.specs.Entries.{Entry, after_of}

-- an entry has a step from texts if the statement's text has the entry's version among them, and the entry's outcome is
-- what the statement does to that text
pub record HasStep (state : State) (entry : Entry) : Type 0 where
  pub versioned : VersionedText
  pub found : find entry.statement.text state ≡ Some versioned
  pub at_version : versioned.version ≡ entry.version
  pub performed : perform entry.statement versioned.text ≡ Ok entry.outcome

-- the texts after the step: the new text in place of the statement's text, if the outcome has one
abbrev pub step : State → Entry → State
step state entry = renew_by entry.statement.text (after_of entry.outcome) state

-- the texts after the steps of a journal
abbrev pub replay : State → List Entry → State
replay state [] = state
replay state (entry ∷ journal) = replay (step state entry) journal

-- each entry has a step from the texts after those before it
abbrev pub Legal : State → List Entry → Type 0
Legal state [] = Unit {0}
Legal state (entry ∷ journal) = HasStep state entry × Legal (step state entry) journal
