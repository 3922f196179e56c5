-- Faults of a run.
use Rattle.std.specs.Prelude.{ℕ, List, Err}
use Rattle.sno_document.specs.Document.{IsDocument}
use Rattle.sno_document.specs.declared.modes.Mode.{Mode}
use Rattle.sno_document.specs.declared.faults.DocumentFault.{DocumentFault}
use Rattle.sno_document.specs.declared.faults.DocumentFault.TheVariants as document
use Rattle.sno_rewrite.specs.declared.faults.RunFault.{RunFault}
use Rattle.sno_rewrite.specs.declared.faults.RunFault.TheVariants.{Document, Memory, Read, Write, Stopped, NoReader, Audit, Closing}

-- the exit status: 2 if the document is to blame, otherwise 4
abbrev pub status : RunFault → ℕ
status (Document document.Memory) = 4
status (Document _) = 2
status Memory = 4
status Read = 4
status Write = 4
status Stopped = 4
status NoReader = 4
status Audit = 4
status Closing = 4

-- the fault of a run whose document could not be read
abbrev pub run_fault : DocumentFault → RunFault
run_fault document.Memory = Memory
run_fault fault = Document fault

-- the bytes are not a document, and this is their first fault
abbrev pub IsFirstFault : Mode → List ℕ → RunFault → Type 0
IsFirstFault mode bytes (Document fault) = IsDocument mode bytes (Err fault)
IsFirstFault mode bytes Memory = ⊥
IsFirstFault mode bytes Read = ⊥
IsFirstFault mode bytes Write = ⊥
IsFirstFault mode bytes Stopped = ⊥
IsFirstFault mode bytes NoReader = ⊥
IsFirstFault mode bytes Audit = ⊥
IsFirstFault mode bytes Closing = ⊥
