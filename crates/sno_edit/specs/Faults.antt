-- What the faults of the parts are as faults of a file.
use Rattle.std.specs.Prelude.{◌≢◌}
use Rattle.sno_statement.specs.declared.file_faults.FileStatementFault.TheVariants as statement
use Rattle.sno_edit.specs.declared.edits.RefusedStatement.{RefusedStatement}
use Rattle.sno_statement.specs.declared.file_faults.FileStatementFault.{FileStatementFault}
use Rattle.sno_edit.specs.declared.folders.ReadFault.{ReadFault}
use Rattle.sno_edit.specs.declared.folders.ReadFault.TheVariants as reading
use Rattle.sno_edit.specs.declared.folders.WriteFault.{WriteFault}
use Rattle.sno_edit.specs.declared.folders.WriteFault.TheVariants as writing
use Rattle.sno_edit.specs.declared.faults.FileFault.{FileFault}
use Rattle.sno_edit.specs.declared.faults.FileFault.TheVariants.{TooLong, Refused, Cut, Unread, Unwritten, Memory}

abbrev pub of_read : ReadFault → FileFault
of_read reading.TooLong = TooLong
of_read (reading.Failed kind) = Unread kind
of_read reading.Memory = Memory

abbrev pub of_write : WriteFault → FileFault
of_write (writing.Failed kind) = Unwritten kind
of_write writing.Memory = Memory

-- a statement that ran out of memory is not refused by its text
abbrev pub of_fault : RefusedStatement → FileStatementFault → FileFault
of_fault refused statement.Memory = Memory
of_fault refused statement.TextTooLong = Refused refused
of_fault refused statement.TooManyTrials = Refused refused
of_fault refused statement.HistoryTooLong = Refused refused

abbrev pub of_refused : RefusedStatement → FileFault
of_refused refused = of_fault refused refused.fault

-- The fault follows from the text and the rules. Memory may run out at any time, and no definition knows how long a history is.
abbrev pub follows : FileFault → Type 0
follows Memory = ⊥
follows (Refused refused) = refused.fault ≢ statement.HistoryTooLong
follows TooLong = Unit {0}
follows (Cut cut) = Unit {0}
follows (Unread kind) = Unit {0}
follows (Unwritten kind) = Unit {0}
