-- What a submit returns.
use Rattle.std.specs.Prelude.{◌≡◌, ◌≢◌, ◌<◌, ◌≤◌, ◌+◌, ℕ, Bool, true, false, List, length, Some, None, Result, Ok, Err, IsTrue}
use Rattle.std.specs.List.{list_all}
use Rattle.std.specs.Char.{is_ascii}
use mathlib.Core.List.{IsPrefix as Begins}
use Rattle.sno_pattern.specs.declared.texts.TheConstants.{MAX_TEXT}
use Rattle.sno_statement.specs.Statement.{Statement}
use Rattle.sno_statement.specs.Perform.{Outcome, perform}
use Rattle.sno_statement.specs.declared.outcomes.StatementFault.{StatementFault}
use Rattle.sno_statement.specs.declared.outcomes.StatementFault.TheVariants as statement
use Rattle.sno_book.specs.Entries.{Entry}
use Rattle.sno_book.specs.Openings.{Opening, place_in}
use Rattle.sno_book.specs.Proposals.{Receipt}
use Rattle.sno_book.specs.States.{VersionedText}
use Rattle.sno_published.specs.Tables.{text_after}
use Rattle.sno_desk.specs.Seen.{HasVersion, IsInView}
use Rattle.sno_desk.specs.Receipts.{CanStandAt, StandsAfter}
use Rattle.sno_desk.specs.declared.faults.SubmitFault.{SubmitFault}
use Rattle.sno_desk.specs.declared.faults.SubmitFault.TheVariants as submit

-- a receipt, or the reason why nothing was accepted
abbrev pub Reply : Type 0
Reply = Result Receipt SubmitFault

-- the gate may be shut for the statement with this number at one of its attempts, counted from 1 to `tries`
pub record MayShut (shuts : ℕ → ℕ → Type 0) (number tries : ℕ) : Type 0 where
  pub attempt : ℕ
  pub first : 1 ≤ attempt
  pub last : attempt ≤ tries
  pub shut : shuts number attempt

-- there is a text, of ASCII characters and no longer than a text may be, on which performing the statement gets this
-- refusal
pub record IsRefusedOnSome (s : Statement) (refused : StatementFault) : Type 0 where
  pub text : List ℕ
  pub short : length text ≤ MAX_TEXT
  pub ascii : IsTrue (list_all is_ascii text)
  pub performed : perform s text ≡ Err refused

-- `NoText` exactly if the opening has no text of the statement's name
abbrev pub DecidesNoText : Opening → Statement → Reply → Type 0
DecidesNoText opening s (Err submit.NoText) = place_in opening s.text ≡ None
DecidesNoText opening s (Ok receipt) = place_in opening s.text ≢ None
DecidesNoText opening s (Err submit.GateShut) = place_in opening s.text ≢ None
DecidesNoText opening s (Err submit.TextTooLong) = place_in opening s.text ≢ None
DecidesNoText opening s (Err submit.Stopped) = place_in opening s.text ≢ None
DecidesNoText opening s (Err submit.Full) = place_in opening s.text ≢ None
DecidesNoText opening s (Err submit.Memory) = place_in opening s.text ≢ None
DecidesNoText opening s (Err (submit.TriesSpent seen now)) = place_in opening s.text ≢ None
DecidesNoText opening s (Err submit.TooManyTrials) = place_in opening s.text ≢ None

-- the receipt's entry has the statement; the gate was shut only if it may be; the statement gets this refusal on some
-- text; or the text rose from the version that the last try saw to a higher one, which is at least the number of tries
abbrev pub IsJustified : (ℕ → ℕ → Type 0) → ℕ → ℕ → Statement → Reply → Type 0
IsJustified shuts tries lost s (Ok receipt) = receipt.entry.statement ≡ s
IsJustified shuts tries lost s (Err submit.GateShut) = MayShut shuts s.number tries
IsJustified shuts tries lost s (Err submit.TextTooLong) = IsRefusedOnSome s statement.TextTooLong
IsJustified shuts tries lost s (Err submit.TooManyTrials) = IsRefusedOnSome s statement.TooManyTrials
IsJustified shuts tries lost s (Err (submit.TriesSpent seen now)) = (seen < now) × (lost ≤ now)
IsJustified shuts tries lost s (Err submit.NoText) = Unit {0}
IsJustified shuts tries lost s (Err submit.Stopped) = Unit {0}
IsJustified shuts tries lost s (Err submit.Full) = Unit {0}
IsJustified shuts tries lost s (Err submit.Memory) = Unit {0}

-- what a submit may return, whatever its seat has seen
abbrev pub IsReply : (ℕ → ℕ → Type 0) → ℕ → Opening → Statement → Reply → Type 0
IsReply shuts tries opening s reply = DecidesNoText opening s reply × IsJustified shuts tries tries s reply

-- performing the statement on the text of its name, as these entries leave it, gets this refusal
pub record IsRefusedOn (opening : Opening) (entries : List Entry) (s : Statement) (refused : StatementFault) : Type 0 where
  pub place : ℕ
  pub named : place_in opening s.text ≡ Some place
  pub held : VersionedText
  pub there : text_after opening entries place ≡ Some held
  pub performed : perform s held.text ≡ Err refused

-- performing the statement on the text of its name, as these entries leave it, is not refused
pub record IsPerformedOn (opening : Opening) (entries : List Entry) (s : Statement) : Type 0 where
  pub place : ℕ
  pub named : place_in opening s.text ≡ Some place
  pub held : VersionedText
  pub there : text_after opening entries place ≡ Some held
  pub outcome : Outcome
  pub performed : perform s held.text ≡ Ok outcome

-- the last try saw the text of the statement's name at this version, at some point between the earlier entries and the
-- later ones. Performing the statement on it is not refused. After the later entries the text has a higher version.
-- With each lost try before the last its version had risen by at least one
pub record HasRisen (opening : Opening) (earlier later : List Entry) (s : Statement) (lost seen now : ℕ) : Type 0 where
  pub place : ℕ
  pub named : place_in opening s.text ≡ Some place
  pub between : List Entry
  pub since : Begins earlier between
  pub until : Begins between later
  pub saw : HasVersion opening between place seen
  pub outcome : Outcome
  pub performed : perform s saw.text ≡ Ok outcome
  pub versioned : HasVersion opening later place now
  pub higher : seen < now
  pub risen : (version : ℕ) → HasVersion opening earlier place version → version + lost ≤ seen + 1

-- what a result says of what the seat had seen before and has seen now
abbrev pub IsReplyAt : ℕ → Opening → List Entry → List Entry → Statement → Reply → Type 0
IsReplyAt tries opening before after s (Ok receipt) = (length before ≤ receipt.index) × IsInView opening after receipt
IsReplyAt tries opening before after s (Err submit.TextTooLong) = IsRefusedOn opening after s statement.TextTooLong
IsReplyAt tries opening before after s (Err submit.TooManyTrials) = IsRefusedOn opening after s statement.TooManyTrials
IsReplyAt tries opening before after s (Err submit.Full) = (length after ≡ opening.room) × IsPerformedOn opening after s
IsReplyAt tries opening before after s (Err (submit.TriesSpent seen now)) = HasRisen opening before after s tries seen now
IsReplyAt tries opening before after s (Err submit.NoText) = Unit {0}
IsReplyAt tries opening before after s (Err submit.GateShut) = Unit {0}
IsReplyAt tries opening before after s (Err submit.Stopped) = Unit {0}
IsReplyAt tries opening before after s (Err submit.Memory) = Unit {0}

-- `TriesSpent` names a current version that a text can have
abbrev pub SpentAt : ℕ → ℕ → SubmitFault → Type 0
SpentAt seats accepted (submit.TriesSpent seen now) = CanStandAt seats accepted now
SpentAt seats accepted submit.NoText = Unit {0}
SpentAt seats accepted submit.GateShut = Unit {0}
SpentAt seats accepted submit.TextTooLong = Unit {0}
SpentAt seats accepted submit.Stopped = Unit {0}
SpentAt seats accepted submit.Full = Unit {0}
SpentAt seats accepted submit.Memory = Unit {0}
SpentAt seats accepted submit.TooManyTrials = Unit {0}

-- the text changed during the try
abbrev pub is_lost : Reply → Bool
is_lost (Err (submit.TriesSpent seen now)) = true
is_lost (Ok receipt) = false
is_lost (Err submit.NoText) = false
is_lost (Err submit.GateShut) = false
is_lost (Err submit.TextTooLong) = false
is_lost (Err submit.Stopped) = false
is_lost (Err submit.Full) = false
is_lost (Err submit.Memory) = false
is_lost (Err submit.TooManyTrials) = false

-- how many receipts a result has: one or zero
abbrev pub receipts_in : Reply → ℕ
receipts_in (Ok receipt) = 1
receipts_in (Err fault) = 0

-- a result that a seat may get after it has accepted this many
abbrev pub MayFollow : ℕ → ℕ → Reply → Type 0
MayFollow seats accepted (Ok receipt) = StandsAfter seats accepted receipt
MayFollow seats accepted (Err fault) = SpentAt seats accepted fault
