-- Laws of documents.
use Rattle.std.specs.Prelude.{◌≡◌, ℕ, List, Result}
use Rattle.sno_document.specs.Document.{Document, IsDocument}
use Rattle.sno_document.specs.declared.faults.DocumentFault.{DocumentFault}
use Rattle.sno_document.specs.declared.modes.Mode.{Mode}

-- bytes represent only one document or have only one first fault
abbrev pub OneResult : Type 0
OneResult = (mode : Mode) (bytes : List ℕ) (r s : Result Document DocumentFault) → IsDocument mode bytes r → IsDocument mode bytes s → r ≡ s
