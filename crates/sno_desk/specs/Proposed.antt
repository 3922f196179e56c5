-- What a seat proposes.
use Rattle.std.specs.Prelude.{◌≡◌, ◌≢◌, List, Some, None, Result, Ok, Err}
use Rattle.sno_statement.specs.Statement.{Statement}
use Rattle.sno_statement.specs.declared.outcomes.StatementFault.TheVariants as statement
use Rattle.sno_book.specs.Entries.{Entry}
use Rattle.sno_book.specs.Openings.{Opening, place_in}
use Rattle.sno_book.specs.Proposals.{Proposal}
use Rattle.sno_desk.specs.Replies.{IsRefusedOn}
use Rattle.sno_desk.specs.Seen.{view_after}
use Rattle.sno_desk.specs.declared.faults.SubmitFault.{SubmitFault}
use Rattle.sno_desk.specs.declared.faults.SubmitFault.TheVariants as submit

-- a proposal of the statement on the text of its name, as these entries leave it
pub record IsProposed (opening : Opening) (seen : List Entry) (s : Statement) (p : Proposal) : Type 0 where
  pub statement : p.statement ≡ s
  pub origin : p.origin ≡ view_after opening seen
  pub place : place_in opening s.text ≡ Some p.place

-- `NoText` exactly if the opening has no text of the statement's name; `TextTooLong` and `TooManyTrials` only if
-- performing the statement on that text is refused so
abbrev pub GivesProposed : Result Proposal SubmitFault → Opening → List Entry → Statement → Type 0
GivesProposed (Ok p) opening seen s = IsProposed opening seen s p
GivesProposed (Err submit.NoText) opening seen s = place_in opening s.text ≡ None
GivesProposed (Err submit.TextTooLong) opening seen s = IsRefusedOn opening seen s statement.TextTooLong
GivesProposed (Err submit.TooManyTrials) opening seen s = IsRefusedOn opening seen s statement.TooManyTrials
GivesProposed (Err submit.Stopped) opening seen s = place_in opening s.text ≢ None
GivesProposed (Err submit.Memory) opening seen s = place_in opening s.text ≢ None
GivesProposed (Err submit.GateShut) opening seen s = ⊥
GivesProposed (Err submit.Full) opening seen s = ⊥
GivesProposed (Err (submit.TriesSpent saw now)) opening seen s = ⊥
