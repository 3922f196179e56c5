-- How the replies to the statements of a document belong to the entries of a journal.
use Rattle.std.specs.Prelude.{◌≡◌, ◌⊎◌, ◌<◌, ◌+◌, ◌*◌, ◌++◌, ℕ, Bool, true, false, List, [], length, map, slice_get, Option, Some, None, Result, Ok, Err}
use Rattle.std.specs.Option.{option_map}
use mathlib.Core.List.{IsPrefix as Begins}
use Rattle.sno_statement.specs.Statement.{Statement}
use Rattle.sno_book.specs.Entries.{Entry}
use Rattle.sno_book.specs.Proposals.{Receipt}
use Rattle.sno_book.specs.Views.{View}
use Rattle.sno_desk.specs.Replies.{IsReplyAt}
use Rattle.sno_desk.specs.Turns.{InTurn, IsSubmitted, Position, position}
use Rattle.sno_desk.specs.declared.faults.SubmitFault.{SubmitFault}
use Rattle.sno_desk.specs.declared.faults.SubmitFault.TheVariants as submit
use Rattle.sno_rewrite.specs.declared.faults.RunFault.{RunFault}
use Rattle.sno_rewrite.specs.declared.faults.RunFault.TheVariants as fault
use Rattle.sno_listing.specs.declared.refusals.Reason.{Reason}
use Rattle.sno_listing.specs.declared.refusals.Reason.TheVariants.{NoText, TextTooLong, TriesSpent, TooManyTrials}
use Rattle.sno_listing.specs.declared.refusals.Refusal.{Refusal}
use Rattle.sno_rewrite.specs.Shared.{refusal_of, refusals}

-- the reply at the place is a receipt with this index
pub record IsReceipt (replies : List (Result Receipt SubmitFault)) (index place : ℕ) : Type 0 where
  pub receipt : Receipt
  pub there : slice_get replies place ≡ Some (Ok receipt)
  pub indexed : receipt.index ≡ index

-- of the replies before a place: the owner of an entry is the place of a receipt with its index, and each receipt's
-- place owns the entry at its index
pub record Owns (entries : ℕ) (replies : List (Result Receipt SubmitFault)) (before : ℕ) (owners : List (Option ℕ)) : Type 0 where
  pub as_many : length owners ≡ entries
  pub backed : (k p : ℕ) → slice_get owners k ≡ Some (Some p) → (p < before) × IsReceipt replies k p
  pub noted : (p : ℕ) (r : Receipt) → p < before → slice_get replies p ≡ Some (Ok r) → slice_get owners r.index ≡ Some (Some p)

-- the reply is one of a submit that began and ended at points of the journal: when the entries `before` had been
-- accepted, and when the entries `after` had
pub record IsReplyWithin (tries : ℕ) (v : View) (s : Statement) (reply : Result Receipt SubmitFault) : Type 0 where
  pub before : List Entry
  pub after : List Entry
  pub grown : Begins before after
  pub begins : Begins after v.journal
  pub at : IsReplyAt tries v.opening before after s reply

-- two receipts whose places differ by a multiple of the number of workers are one worker's; the later one has the
-- higher index
abbrev pub AreInTurn : ℕ → List (Result Receipt SubmitFault) → Type 0
AreInTurn workers replies = (p later : ℕ) (one other : Receipt) → slice_get replies p ≡ Some (Ok one) → slice_get replies (p + (later + 1) * workers) ≡ Some (Ok other)
    → one.index < other.index

-- one worker handled all statements: the replies are those of its submits one after the other, before which it had
-- accepted and seen nothing. What it has seen begins the journal, which has as many entries as it accepted
pub record IsAlone (tries : ℕ) (v : View) (statements : List Statement) (replies : List (Result Receipt SubmitFault)) : Type 0 where
  pub after : Position
  pub in_turn : InTurn (IsSubmitted (λ _ _. ⊥) tries v.opening 1) (position 0 []) after statements replies
  pub begins : Begins after.seen v.journal
  pub counted : length v.journal ≡ after.accepted

-- the reason for which a statement is listed as refused; the other faults are not reasons, and end the run
abbrev pub reason_in : SubmitFault → Option Reason
reason_in submit.NoText = Some NoText
reason_in submit.TextTooLong = Some TextTooLong
reason_in (submit.TriesSpent seen now) = Some (TriesSpent seen now)
reason_in submit.TooManyTrials = Some TooManyTrials
reason_in submit.GateShut = None
reason_in submit.Stopped = None
reason_in submit.Full = None
reason_in submit.Memory = None

-- what a reply says of its statement: that it is accepted, that it is refused for a reason, or nothing
abbrev pub result_in : Result Receipt SubmitFault → Option (Option Reason)
result_in (Ok receipt) = Some None
result_in (Err fault) = option_map Some (reason_in fault)

-- an entry doesn't belong to one receipt, or a reply is not one of a legal run; or memory ran out
abbrev pub IsAuditOrMemory : RunFault → Type 0
IsAuditOrMemory e = (e ≡ fault.Audit) ⊎ (e ≡ fault.Memory)

-- the same, or nothing more was shown to a seat
abbrev pub IsUnsettled : RunFault → Type 0
IsUnsettled e = (e ≡ fault.Stopped) ⊎ IsAuditOrMemory e

-- the replies to these statements have results, and the refusals among them are listed
pub record Lists (statements : List Statement) (replies : List (Result Receipt SubmitFault)) (refused : List Refusal) : Type 0 where
  pub results : List (Option Reason)
  pub as_many : length results ≡ length statements
  pub given : map result_in replies ≡ map Some results
  pub listed : refused ≡ refusals statements results

-- one reply more: it has a result, and is listed after the others if it is a refusal
pub record IsListed (s : Statement) (reply : Result Receipt SubmitFault) (old new : List Refusal) : Type 0 where
  pub result : Option Reason
  pub given : result_in reply ≡ Some result
  pub listed : new ≡ old ++ refusal_of s result

-- whether memory ran out for a statement
abbrev pub is_short : Result Receipt SubmitFault → Bool
is_short (Ok receipt) = false
is_short (Err submit.NoText) = false
is_short (Err submit.GateShut) = false
is_short (Err submit.TextTooLong) = false
is_short (Err submit.Stopped) = false
is_short (Err submit.Full) = false
is_short (Err submit.Memory) = true
is_short (Err (submit.TriesSpent seen now)) = false
is_short (Err submit.TooManyTrials) = false

-- whether nothing more was shown to a statement's seat
abbrev pub is_stopped : Result Receipt SubmitFault → Bool
is_stopped (Ok receipt) = false
is_stopped (Err submit.NoText) = false
is_stopped (Err submit.GateShut) = false
is_stopped (Err submit.TextTooLong) = false
is_stopped (Err submit.Stopped) = true
is_stopped (Err submit.Full) = false
is_stopped (Err submit.Memory) = false
is_stopped (Err (submit.TriesSpent seen now)) = false
is_stopped (Err submit.TooManyTrials) = false
