-- Why nothing is found.
use Rattle.std.specs.Prelude.{ℕ}
use Rattle.sno_statement.specs.declared.file_faults.FileStatementFault.{FileStatementFault}
use Rattle.sno_statement.specs.declared.file_faults.FileStatementFault.TheVariants as statement
use Rattle.sno_find.specs.declared.faults.FindFault.{FindFault}
use Rattle.sno_find.specs.declared.faults.FindFault.TheVariants.{HistoryTooLong, Memory, TooManyTrials}

-- A statement that is refused, by its number. Nothing is replaced, so no text is too long.
abbrev pub of_statement : ℕ → FileStatementFault → FindFault
of_statement number statement.TooManyTrials = TooManyTrials number
of_statement number statement.HistoryTooLong = HistoryTooLong number
of_statement number statement.Memory = Memory
of_statement number statement.TextTooLong = Memory
