-- Shared runs: workers perform the statements of a document on its texts, in an order that nobody fixed.
use Rattle.std.specs.Prelude.{◌≡◌, ◌≢◌, ◌<◌, ◌≤◌, ℕ, ◌+◌, ◌*◌, Bool, List, [], ◌∷◌, ◌++◌, length, slice_get, Option, Some, None, Ok, Err}
use Rattle.std.specs.Option.{option_map}
use mathlib.Core.List.{IsPrefix as Begins}
use Rattle.sno_statement.specs.Statement.{Statement}
use Rattle.sno_statement.specs.Perform.{Outcome, perform}
use Rattle.sno_statement.specs.declared.outcomes.StatementFault.{StatementFault}
use Rattle.sno_statement.specs.declared.outcomes.StatementFault.TheVariants as statement
use Rattle.sno_book.specs.States.{VersionedText, State, find}
use Rattle.sno_book.specs.Entries.{Entry}
use Rattle.sno_book.specs.Journals.{Legal, replay}
use Rattle.sno_book.specs.Openings.{Opening, start}
use Rattle.sno_book.specs.Views.{View, state_of}
use Rattle.sno_document.specs.Document.{Document, IsDocument}
use Rattle.sno_document.specs.declared.modes.Mode.{Mode}
use Rattle.sno_listing.specs.History.{History}
use Rattle.sno_listing.specs.Forms.{listing_by}
use Rattle.sno_listing.specs.declared.refusals.Reason.{Reason}
use Rattle.sno_listing.specs.declared.refusals.Reason.TheVariants.{NoText, TextTooLong, TriesSpent, TooManyTrials, Full}
use Rattle.sno_listing.specs.declared.refusals.Refusal.{Refusal}
use Rattle.sno_rewrite.specs.Serial.{opening_in, serial}

-- at some point of the journal, when these entries had been accepted, the text of this name was this one
pub record HasBeen (v : View) (entries : List Entry) (name : List ℕ) (held : VersionedText) : Type 0 where
  pub begins : Begins entries v.journal
  pub found : find name (replay (start v.opening) entries) ≡ Some held

-- performing the statement on its text, as it was at some point of the journal, gets this refusal
pub record IsRefusedThen (v : View) (s : Statement) (refused : StatementFault) : Type 0 where
  pub entries : List Entry
  pub held : VersionedText
  pub was : HasBeen v entries s.text held
  pub performed : perform s held.text ≡ Err refused

-- the statement's text changed during each of its tries. The last one saw it at the first version, at some point of the
-- journal, at which performing the statement is not refused. Before that point it had been replaced at least as often
-- as there were tries before. Later it had the second version, which is higher. At the end it has that version or a
-- higher one
pub record IsOvertaken (tries : ℕ) (v : View) (s : Statement) (seen now : ℕ) : Type 0 where
  pub earlier : List Entry
  pub saw : VersionedText
  pub was : HasBeen v earlier s.text saw
  pub at_first : saw.version ≡ seen
  pub outcome : Outcome
  pub performed : perform s saw.text ≡ Ok outcome
  pub later : List Entry
  pub after : Begins earlier later
  pub met : VersionedText
  pub became : HasBeen v later s.text met
  pub at_last : met.version ≡ now
  pub higher : seen < now
  pub lost : tries ≤ seen + 1
  pub left : VersionedText
  pub found : find s.text (state_of v) ≡ Some left
  pub reached : now ≤ left.version

-- `NoText` is the reason exactly if there is no text of the statement's name
abbrev pub IsNoTextIfMissing : State → Statement → Option Reason → Type 0
IsNoTextIfMissing state s (Some NoText) = find s.text state ≡ None
IsNoTextIfMissing state s (Some TextTooLong) = find s.text state ≢ None
IsNoTextIfMissing state s (Some (TriesSpent seen now)) = find s.text state ≢ None
IsNoTextIfMissing state s (Some TooManyTrials) = find s.text state ≢ None
IsNoTextIfMissing state s (Some Full) = find s.text state ≢ None
IsNoTextIfMissing state s None = find s.text state ≢ None

-- the other reasons have their causes in the journal, which has room for all statements of a document
abbrev pub HasCause : ℕ → View → Statement → Option Reason → Type 0
HasCause tries v s (Some TextTooLong) = IsRefusedThen v s statement.TextTooLong
HasCause tries v s (Some TooManyTrials) = IsRefusedThen v s statement.TooManyTrials
HasCause tries v s (Some (TriesSpent seen now)) = IsOvertaken tries v s seen now
HasCause tries v s (Some Full) = ⊥
HasCause tries v s (Some NoText) = Unit {0}
HasCause tries v s None = Unit {0}

-- a statement without a reason is accepted
abbrev pub IsAllowed : ℕ → View → Statement → Option Reason → Type 0
IsAllowed tries v s result = IsNoTextIfMissing (state_of v) s result × HasCause tries v s result

-- each statement is accepted, or refused for a reason that is allowed
abbrev pub AreAllowed : ℕ → View → List Statement → List (Option Reason) → Type 0
AreAllowed tries v [] [] = Unit {0}
AreAllowed tries v (s ∷ statements) (a ∷ results) = IsAllowed tries v s a × AreAllowed tries v statements results
AreAllowed tries v _ _ = ⊥

-- a reason is listed with the statement's number
abbrev pub refusal_of : Statement → Option Reason → List Refusal
refusal_of s None = []
refusal_of s (Some reason) = record { number = s.number; reason = reason } ∷ []

-- the refused statements, in the document's order
abbrev pub refusals : List Statement → List (Option Reason) → List Refusal
refusals (s ∷ statements) (a ∷ results) = refusal_of s a ++ refusals statements results
refusals _ _ = []

-- to which statement each entry of the journal belongs, by its place in the document. Each entry has a place, no two
-- have the same, the entry's statement is at that place, and the places are those of the accepted statements.
-- Statements whose places differ by a multiple of the number of workers are one worker's, and are in the journal in the
-- document's order
pub record IsOrder (workers : ℕ) (statements : List Statement) (results : List (Option Reason)) (journal : List Entry) (order : List ℕ) : Type 0 where
  pub as_many : length order ≡ length journal
  pub once : (j k p : ℕ) → slice_get order j ≡ Some p → slice_get order k ≡ Some p → j ≡ k
  pub statement : (k p : ℕ) → slice_get order k ≡ Some p → option_map (λ e. e.statement) (slice_get journal k) ≡ slice_get statements p
  pub accepted : (k p : ℕ) → slice_get order k ≡ Some p → slice_get results p ≡ Some None
  pub all : (p : ℕ) → slice_get results p ≡ Some None → (k : ℕ) × (slice_get order k ≡ Some p)
  pub in_turn : (j k p later : ℕ) → slice_get order j ≡ Some p → slice_get order k ≡ Some (p + (later + 1) * workers) → j < k

-- the journal, which follows this opening, has each statement once, except the refused ones, which are listed with
-- their reasons
pub record Settles (workers tries : ℕ) (opening : Opening) (statements : List Statement) (h : History) : Type 0 where
  pub results : List (Option Reason)
  pub allowed : AreAllowed tries (record { opening = opening; journal = h.journal }) statements results
  pub refused : h.refused ≡ refusals statements results
  pub order : List ℕ
  pub ordered : IsOrder workers statements results h.journal order

-- a history that a shared run of the document may have. The journal is legal from the document's texts, and the texts
-- are those of its replay. The journal has each statement that isn't refused. One worker does what the serial run does
pub record IsShared (workers tries : ℕ) (d : Document) (h : History) : Type 0 where
  pub legal : Legal (start (opening_in d)) h.journal
  pub replayed : h.state ≡ replay (start (opening_in d)) h.journal
  pub settled : Settles workers tries (opening_in d) d.statements h
  pub alone : workers ≡ 1 → serial d ≡ Some h

-- the bytes are a document, the lines are the listing of a run of it by `workers` workers, and `refused` of its
-- statements are refused
pub record IsSharedReport (mode : Mode) (json : Bool) (workers tries : ℕ) (bytes lines : List ℕ) (refused : ℕ) : Type 0 where
  pub document : Document
  pub is_document : IsDocument mode bytes (Ok document)
  pub history : History
  pub is_shared : IsShared workers tries document history
  pub listed : lines ≡ listing_by json history
  pub counted : refused ≡ length history.refused
