-- The serial run of a document: its statements performed in order on its texts.
use Rattle.std.specs.Prelude.{◌≡◌, ℕ, List, [], ◌∷◌, ◌++◌, Option, Some, None, Result, Ok, Err, option_and_then}
use Rattle.std.specs.Option.{option_map}
use Rattle.sno_statement.specs.Statement.{Statement}
use Rattle.sno_statement.specs.Perform.{Outcome, perform}
use Rattle.sno_statement.specs.declared.outcomes.StatementFault.{StatementFault}
use Rattle.sno_statement.specs.declared.outcomes.StatementFault.TheVariants as statement
use Rattle.sno_book.specs.States.{VersionedText, find}
use Rattle.sno_book.specs.Entries.{Entry}
use Rattle.sno_book.specs.Journals.{step}
use Rattle.sno_book.specs.Openings.{Opening, start}
use Rattle.sno_document.specs.Document.{Document, room}
use Rattle.sno_listing.specs.History.{History}
use Rattle.sno_listing.specs.declared.refusals.Reason.{Reason}
use Rattle.sno_listing.specs.declared.refusals.Reason.TheVariants.{NoText, TextTooLong, TooManyTrials}

-- a refused statement changes nothing
abbrev pub refuse : History → Statement → Reason → History
refuse h s reason = record { state = h.state; journal = h.journal; refused = h.refused ++ record { number = s.number; reason = reason } ∷ [] }

-- an accepted statement is one entry of the journal, and the step that it makes
abbrev pub accept : History → Entry → History
accept h entry = record { state = step h.state entry; journal = h.journal ++ entry ∷ []; refused = h.refused }

-- the reason for which a statement without an outcome is refused; `Memory` is not a reason, and by the definition of
-- `perform` no statement has it
abbrev pub reason_of : StatementFault → Option Reason
reason_of statement.TextTooLong = Some TextTooLong
reason_of statement.Memory = None
reason_of statement.TooManyTrials = Some TooManyTrials

-- a statement with an outcome is accepted, and one without is refused for its reason
abbrev pub settle : History → Statement → ℕ → Result Outcome StatementFault → Option History
settle h s version (Ok done) = Some (accept h (record { statement = s; version = version; outcome = done }))
settle h s version (Err e) = option_map (λ reason. refuse h s reason) (reason_of e)

abbrev pub perform_on : History → Statement → Option VersionedText → Option History
perform_on h s None = Some (refuse h s NoText)
perform_on h s (Some held) = settle h s held.version (perform s held.text)

-- a statement performed on the current text of its name
unfoldable pub advance : History → Statement → Option History
advance h s = perform_on h s (find s.text h.state)

-- the statements in order
abbrev pub run : History → List Statement → Option History
run h [] = Some h
run h (s ∷ statements) = option_and_then (λ g. run g statements) (advance h s)

-- all texts at version 0, and then the statements
abbrev pub run_from : Opening → List Statement → Option History
run_from opening statements = run (record { state = start opening; journal = []; refused = [] }) statements

-- the document's texts, with room for as many entries as a journal may have
abbrev pub opening_in : Document → Opening
opening_in d = record { texts = d.texts; room = room }

-- the document's statements on its texts; each document has a serial run (`HasSerial`)
abbrev pub serial : Document → Option History
serial d = run_from (opening_in d) d.statements

-- each document has a serial run: each of its statements has an outcome or a reason
abbrev pub HasSerial : Type 0
HasSerial = (d : Document) → (h : History) × (serial d ≡ Some h)
