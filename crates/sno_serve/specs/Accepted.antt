-- What is accepted through a seat that serves.
use Rattle.std.specs.Prelude.{◌≡◌, ◌≤◌, ◌⊎◌, ℕ, ◌+◌, List, [], ◌∷◌, ◌++◌, Some, Option, length, slice_get}
use mathlib.Core.List.{IsPrefix as Begins}
use Rattle.serde_json.specs.Data.{Data}
use Rattle.sno_pattern.specs.Definitions.{Definitions}
use Rattle.sno_statement.specs.Statement.{Statement}
use Rattle.sno_book.specs.Entries.{Entry}
use Rattle.sno_document.specs.declared.modes.Mode.{Mode}
use Rattle.sno_desk.specs.Replies.{Reply, receipts_in}
use Rattle.sno_desk.specs.Turns.{Position}
use Rattle.sno_serve.specs.Asked.{asked_in, within}
use Rattle.sno_serve.specs.Replies.{submit_reply, at_reply}
use Rattle.sno_serve.specs.AtVersion.{AtResult, receipts_at}
use Rattle.sno_serve.specs.declared.asked.Asked.{Asked}
use Rattle.sno_serve.specs.declared.asked.Asked.TheVariants as asks

-- the reply to a statement is that of a submit's result, and the seat's count has risen by the number of its receipts
pub record IsCountedOnce (before after : ℕ) (id : Option Data) (d : Data) : Type 0 where
  pub returned : Reply
  pub reply : d ≡ submit_reply id returned
  pub counted : after ≡ before + receipts_in returned

-- the same for a statement at one version of its text
pub record IsCountedAt (before after : ℕ) (id : Option Data) (d : Data) : Type 0 where
  pub gave : AtResult
  pub reply : d ≡ at_reply id gave
  pub counted : after ≡ before + receipts_at gave

-- the seat's count rises only with a statement
abbrev pub IsCounted : ℕ → ℕ → Option Data → Asked → Data → Type 0
IsCounted before after id (asks.Perform s) d = IsCountedOnce before after id d
IsCounted before after id (asks.PerformAt s version) d = IsCountedAt before after id d
IsCounted before after id (asks.Check s) d = after ≡ before
IsCounted before after id (asks.Read name) d = after ≡ before
IsCounted before after id (asks.ReadAt name version) d = after ≡ before
IsCounted before after id asks.Texts d = after ≡ before
IsCounted before after id (asks.Since excerpt) d = after ≡ before
IsCounted before after id (asks.Fault fault) d = after ≡ before

-- nothing was accepted through the seat
pub record HasLooked (before after : Position) : Type 0 where
  pub begins : Begins before.seen after.seen
  pub same : after.accepted ≡ before.accepted

-- one entry was accepted through the seat, of a statement that may be. It comes after all that the seat had seen, and
-- the seat has seen it
pub record HasAccepted (may : Statement → Type 0) (entry : Entry) (before after : Position) : Type 0 where
  pub asked : may entry.statement
  pub front : List Entry
  pub begins : Begins before.seen after.seen
  pub later : length before.seen ≤ length front
  pub seen : Begins (front ++ entry ∷ []) after.seen
  pub counted : after.accepted ≡ before.accepted + 1

-- at most one entry was accepted through the seat
abbrev pub HasTaken : (Statement → Type 0) → Position → Position → Type 0
HasTaken may before after = HasLooked before after ⊎ ((entry : Entry) × HasAccepted may entry before after)

-- these entries were accepted through the seat, one after the other, and no others
abbrev pub Accepts : (Statement → Type 0) → List Entry → Position → Position → Type 0
Accepts may [] before after = HasLooked before after
Accepts may (entry ∷ entries) before after = (between : Position) × (HasAccepted may entry before between × Accepts may entries between after)

-- all that was accepted through the seat is of statements that may be
pub record HasServed (may : Statement → Type 0) (before after : Position) : Type 0 where
  pub entries : List Entry
  pub accepted : Accepts may entries before after

-- the line asks for this statement, at any version of its text or at one
abbrev pub AsksFor : Asked → Statement → Type 0
AsksFor (asks.Perform s) t = t ≡ s
AsksFor (asks.PerformAt s version) t = t ≡ s
AsksFor asked t = ⊥

-- the statement is at a place of the list
pub record IsAmong (statements : List Statement) (s : Statement) : Type 0 where
  pub place : ℕ
  pub there : slice_get statements place ≡ Some s

-- some line asks for the statement, under these definitions and this mode, with no more trials than the mode has
pub record IsRead (rules : Definitions) (mode : Mode) (s : Statement) : Type 0 where
  pub number : ℕ
  pub line : List ℕ
  pub asked : AsksFor (within mode.trials (asked_in rules mode number line)) s

-- the statement is the document's, or was read from a line
abbrev pub IsGiven : Definitions → List Statement → Mode → Statement → Type 0
IsGiven rules statements mode s = IsAmong statements s ⊎ IsRead rules mode s
