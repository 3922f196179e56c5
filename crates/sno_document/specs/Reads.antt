-- Documents of the program by value.
use Rattle.std.specs.Prelude.{◌≡◌, ◌≢◌, ◌≤◌, ℕ, List, [], length, map, Result, Ok, Err}
use Rattle.std.specs.Arc.{arc_value}
use Rattle.sno_book.specs.declared.openings.TheConstants.{MAX_ENTRIES}
use Rattle.sno_document.specs.Document as document
use Rattle.sno_document.specs.Document.{IsDocument}
use Rattle.sno_document.specs.declared.documents.Document.{Document}
use Rattle.sno_document.specs.declared.faults.DocumentFault.{DocumentFault}
use Rattle.sno_document.specs.declared.faults.DocumentFault.TheVariants.{Memory}
use Rattle.sno_document.specs.declared.statements.TheConstants.{MAX_STATEMENTS}
use Rattle.sno_document.specs.declared.modes.Mode.{Mode}

abbrev pub document_seen : Document → document.Document
document_seen d = record { rules = arc_value d.rules; texts = d.book.opening.texts; statements = map arc_value d.statements.items }

-- the book has no entries yet, and room for an entry for each statement
pub record IsReady (d : Document) : Type 0 where
  pub empty : d.book.journal ≡ []
  pub room : d.book.opening.room ≡ MAX_ENTRIES
  pub few : length d.statements.items ≤ MAX_STATEMENTS

-- the result is what the bytes represent, or out of memory
abbrev pub Reads : Mode → List ℕ → Result Document DocumentFault → Type 0
Reads mode bytes (Ok d) = IsDocument mode bytes (Ok (document_seen d))
Reads mode bytes (Err e) = e ≢ Memory → IsDocument mode bytes (Err e)
