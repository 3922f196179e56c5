-- A statement that is performed once, and accepted only if its text has one version then.
use Rattle.std.specs.Prelude.{◌≡◌, ◌≢◌, ◌≤◌, ℕ, List, Some, None, Result, Ok, Err, length}
use Rattle.sno_statement.specs.Statement.{Statement}
use Rattle.sno_statement.specs.declared.outcomes.StatementFault.TheVariants as statement
use Rattle.sno_book.specs.Entries.{Entry}
use Rattle.sno_book.specs.Openings.{Opening, place_in}
use Rattle.sno_book.specs.Proposals.{Receipt}
use Rattle.sno_desk.specs.Replies.{IsPerformedOn, IsRefusedOn}
use Rattle.sno_desk.specs.Faults.{of_commit}
use Rattle.sno_desk.specs.Seen.{HasVersion, IsInView}
use Rattle.sno_desk.specs.declared.faults.CommitFault.{CommitFault}
use Rattle.sno_desk.specs.declared.faults.CommitFault.TheVariants as commit
use Rattle.sno_desk.specs.declared.faults.SubmitFault.{SubmitFault}
use Rattle.sno_desk.specs.declared.faults.SubmitFault.TheVariants as submit
use Rattle.sno_serve.specs.declared.at_version.AtFault.{AtFault}
use Rattle.sno_serve.specs.declared.at_version.AtFault.TheVariants as at

-- a receipt, or the reason why nothing was accepted
abbrev pub AtResult : Type 0
AtResult = Result Receipt AtFault

-- a commit's refusal; a change names the version that the text has
abbrev pub at_commit : CommitFault → AtFault
at_commit (commit.Changed seen now) = at.Changed now
at_commit e = at.Refused (of_commit e)

-- how many receipts a result has: one or zero
abbrev pub receipts_at : AtResult → ℕ
receipts_at (Ok receipt) = 1
receipts_at (Err fault) = 0

-- the entry has the statement and the version, and comes after all that the seat had seen
pub record IsAcceptedAt (opening : Opening) (before after : List Entry) (s : Statement) (version : ℕ) (receipt : Receipt) : Type 0 where
  pub statement : receipt.entry.statement ≡ s
  pub at_version : receipt.entry.version ≡ version
  pub later : length before ≤ receipt.index
  pub shown : IsInView opening after receipt

-- after all that the seat has seen the text of the statement's name has this version, which is another one
pub record IsChanged (opening : Opening) (after : List Entry) (s : Statement) (version now : ℕ) : Type 0 where
  pub place : ℕ
  pub named : place_in opening s.text ≡ Some place
  pub versioned : HasVersion opening after place now
  pub other : now ≢ version

-- why nothing was accepted, apart from a change: `NoText` exactly if the opening has no text of the statement's name; the
-- others as for a submit that is tried once. A gate is never shut, and a try is never lost
abbrev pub Refuses : Opening → List Entry → Statement → SubmitFault → Type 0
Refuses opening after s submit.NoText = place_in opening s.text ≡ None
Refuses opening after s submit.TextTooLong = IsRefusedOn opening after s statement.TextTooLong
Refuses opening after s submit.TooManyTrials = IsRefusedOn opening after s statement.TooManyTrials
Refuses opening after s submit.Full = (length after ≡ opening.room) × IsPerformedOn opening after s
Refuses opening after s submit.Stopped = place_in opening s.text ≢ None
Refuses opening after s submit.Memory = place_in opening s.text ≢ None
Refuses opening after s submit.GateShut = ⊥
Refuses opening after s (submit.TriesSpent seen now) = ⊥

-- what the one attempt returns
abbrev pub IsResultAt : Opening → List Entry → List Entry → Statement → ℕ → AtResult → Type 0
IsResultAt opening before after s version (Ok receipt) = IsAcceptedAt opening before after s version receipt
IsResultAt opening before after s version (Err (at.Changed now)) = IsChanged opening after s version now
IsResultAt opening before after s version (Err (at.Refused fault)) = Refuses opening after s fault
