-- What a line does to a book that one caller holds, and its reply. What a line asks for, and how a reply is made, is defined for a service.
use Rattle.std.specs.Prelude.{◌≡◌, ◌≢◌, ◌⊎◌, ℕ, List, Option, None, Some, Result, Ok, Err, length, map, slice_get}
use Rattle.serde_json.specs.Data.{Data}
use Rattle.sno_statement.specs.Statement.{Statement}
use Rattle.sno_statement.specs.Perform.{perform}
use Rattle.sno_statement.specs.declared.outcomes.StatementFault.TheVariants as statement
use Rattle.sno_book.specs.Commits.{IsSnapshot}
use Rattle.sno_book.specs.Entries.{Entry}
use Rattle.sno_book.specs.Openings.{place_in}
use Rattle.sno_book.specs.Proposals.{Proposal, Receipt}
use Rattle.sno_book.specs.Snapshots.{Snapshot}
use Rattle.sno_book.specs.States.{VersionedText}
use Rattle.sno_book.specs.Views.{View, and_then, state_of}
use Rattle.sno_listing.specs.declared.refusals.Refusal.{Refusal}
use Rattle.sno_desk.specs.Replies.{IsPerformedOn, IsRefusedOn, Reply}
use Rattle.sno_desk.specs.declared.faults.SnapshotFault.{SnapshotFault}
use Rattle.sno_desk.specs.declared.faults.SnapshotFault.TheVariants as snapshots
use Rattle.sno_desk.specs.declared.faults.SubmitFault.{SubmitFault}
use Rattle.sno_desk.specs.declared.faults.SubmitFault.TheVariants as submits
use Rattle.sno_serve.specs.AtVersion.{AtResult, IsChanged}
use Rattle.sno_serve.specs.Excerpts.{excerpt_of}
use Rattle.sno_serve.specs.Replies.{IsFaulted, IsNoted, at_refusal, at_reply, capped, look_reply, read_at_reply, refusal_in, row_data, rows_reply, since_reply, submit_reply}
use Rattle.sno_serve.specs.Versions.{text_at_version}
use Rattle.sno_serve.specs.declared.asked.Asked.{Asked}
use Rattle.sno_serve.specs.declared.asked.Asked.TheVariants as asks
use Rattle.sno_serve.specs.declared.at_version.AtFault.TheVariants as at

-- a snapshot of the book's text of this name, or why there is none
abbrev pub GivesTaken : Result Snapshot SnapshotFault → View → List ℕ → Type 0
GivesTaken (Ok taken) v name = IsSnapshot v name taken
GivesTaken (Err snapshots.NoText) v name = place_in v.opening name ≡ None
GivesTaken (Err snapshots.Memory) v name = place_in v.opening name ≢ None
GivesTaken (Err snapshots.Stopped) v name = ⊥

-- Why a statement is refused on a book, each refusal by its cause. Nothing stops a caller that is alone, no gate is shut, and no try is lost.
abbrev pub IsHindered : View → Statement → SubmitFault → Type 0
IsHindered v s submits.NoText = place_in v.opening s.text ≡ None
IsHindered v s submits.TextTooLong = IsRefusedOn v.opening v.journal s statement.TextTooLong
IsHindered v s submits.TooManyTrials = IsRefusedOn v.opening v.journal s statement.TooManyTrials
IsHindered v s submits.Full = (length v.journal ≡ v.opening.room) × IsPerformedOn v.opening v.journal s
IsHindered v s submits.Memory = place_in v.opening s.text ≢ None
IsHindered v s submits.Stopped = ⊥
IsHindered v s submits.GateShut = ⊥
IsHindered v s (submits.TriesSpent seen now) = ⊥

-- what the statement does to the book's text of its name
pub record IsAttempted (v : View) (s : Statement) (p : Proposal) : Type 0 where
  pub statement : p.statement ≡ s
  pub origin : p.origin ≡ v
  pub place : place_in v.opening s.text ≡ Some p.place
  pub text : List ℕ
  pub there : slice_get (state_of v) p.place ≡ Some (record { name = s.text; text = text; version = p.version })
  pub performed : perform s text ≡ Ok p.outcome

-- .. or why it can't be performed; a journal that is full comes only with a commit
abbrev pub GivesAttempt : Result Proposal SubmitFault → View → Statement → Type 0
GivesAttempt (Ok p) v s = IsAttempted v s p
GivesAttempt (Err fault) v s = IsHindered v s fault × (fault ≢ submits.Full)

-- One entry is appended, at the receipt's index: what the statement does to the text of its name, as it was before.
pub record IsAppended (before after : View) (s : Statement) (receipt : Receipt) : Type 0 where
  pub statement : receipt.entry.statement ≡ s
  pub index : receipt.index ≡ length before.journal
  pub place : ℕ
  pub named : place_in before.opening s.text ≡ Some place
  pub text : slice_get (state_of before) place ≡ Some (record { name = s.text; text = receipt.text; version = receipt.entry.version })
  pub performed : perform s receipt.text ≡ Ok receipt.entry.outcome
  pub appended : after ≡ and_then before receipt.entry

-- what performing a statement on a book leaves and returns: one entry, or the book as it was
abbrev pub IsDone : View → View → Statement → Reply → Type 0
IsDone before after s (Ok receipt) = IsAppended before after s receipt
IsDone before after s (Err fault) = IsHindered before s fault × (after ≡ before)

-- .. if the text of its name has this version; otherwise the version that it has is returned, and the book is as it was
abbrev pub IsDoneAt : View → View → Statement → ℕ → AtResult → Type 0
IsDoneAt before after s version (Ok receipt) = IsAppended before after s receipt × (receipt.entry.version ≡ version)
IsDoneAt before after s version (Err (at.Changed now)) = IsChanged before.opening before.journal s version now × (after ≡ before)
IsDoneAt before after s version (Err (at.Refused fault)) = IsHindered before s fault × (after ≡ before)

-- a statement that is performed, with its reply and what the listing has of its refusal
pub record IsPerformed (before after : View) (id : Option Data) (s : Statement) (d : Data) (refused : Option Refusal) : Type 0 where
  pub returned : Reply
  pub done : IsDone before after s returned
  pub reply : d ≡ submit_reply id returned
  pub refusal : refused ≡ refusal_in s.number returned

-- .. at one version of its text
pub record IsPerformedAt (before after : View) (id : Option Data) (s : Statement) (version : ℕ) (d : Data) (refused : Option Refusal) : Type 0 where
  pub gave : AtResult
  pub done : IsDoneAt before after s version gave
  pub reply : d ≡ at_reply id gave
  pub refusal : refused ≡ at_refusal s.number gave

-- what the statement would do, with the reply, which also has what is found in it; the entry's index would be the next one
pub record IsNotedOn (v : View) (id : Option Data) (s : Statement) (d : Data) : Type 0 where
  pub gave : Result Proposal SubmitFault
  pub gives : GivesAttempt gave v s
  pub noted : IsNoted id (length v.journal) s gave d

-- the text of this name, or why there is none
pub record IsShown (v : View) (id : Option Data) (name : List ℕ) (d : Data) : Type 0 where
  pub taken : Result Snapshot SnapshotFault
  pub gives : GivesTaken taken v name
  pub reply : d ≡ look_reply id name taken

-- a text as it is listed
abbrev pub row_of : VersionedText → Data
row_of held = row_data held.name held.text held.version

-- The reply to what a line asks for, what the line leaves of the book, and what the listing has of a refused statement.
abbrev pub IsReplied : View → View → Option Data → Asked → Data → Option Refusal → Type 0
IsReplied before after id (asks.Perform s) d refused = IsPerformed before after id s d refused
IsReplied before after id (asks.PerformAt s version) d refused = IsPerformedAt before after id s version d refused
IsReplied before after id (asks.Check s) d refused = IsNotedOn before id s d × (after ≡ before) × (refused ≡ None)
IsReplied before after id (asks.Read name) d refused = IsShown before id name d × (after ≡ before) × (refused ≡ None)
IsReplied before after id (asks.ReadAt name version) d refused =
    (d ≡ read_at_reply id name version (place_in before.opening name) (text_at_version before.opening before.journal name version)) × (after ≡ before) × (refused ≡ None)
IsReplied before after id asks.Texts d refused = (d ≡ rows_reply id (map row_of (state_of before))) × (after ≡ before) × (refused ≡ None)
IsReplied before after id (asks.Since excerpt) d refused =
    (d ≡ since_reply id (excerpt_of excerpt (capped excerpt.from) before.journal)) × (after ≡ before) × (refused ≡ None)
IsReplied before after id (asks.Fault fault) d refused = IsFaulted id d × (after ≡ before) × (refused ≡ None)

-- one entry was appended, of a statement that may be
pub record HasOne (may : Statement → Type 0) (before after : View) : Type 0 where
  pub entry : Entry
  pub asked : may entry.statement
  pub appended : after ≡ and_then before entry

-- at most one entry was appended, of a statement that may be
abbrev pub HasTaken : (Statement → Type 0) → View → View → Type 0
HasTaken may before after = (after ≡ before) ⊎ HasOne may before after
