-- Why a statement is refused on the content of a file, beside why it is refused on a text.
use Rattle.sno_statement.specs.declared.outcomes.StatementFault.{StatementFault}
use Rattle.sno_statement.specs.declared.outcomes.StatementFault.TheVariants as text
use Rattle.sno_statement.specs.declared.file_faults.FileStatementFault.{FileStatementFault}
use Rattle.sno_statement.specs.declared.file_faults.FileStatementFault.TheVariants as file

-- The fault as performing has it, which knows no longest history: there a search that would keep too much ran out of memory.
abbrev pub plain : FileStatementFault → StatementFault
plain file.TextTooLong = text.TextTooLong
plain file.Memory = text.Memory
plain file.TooManyTrials = text.TooManyTrials
plain file.HistoryTooLong = text.Memory

-- .. and the other way
abbrev pub in_file : StatementFault → FileStatementFault
in_file text.TextTooLong = file.TextTooLong
in_file text.Memory = file.Memory
in_file text.TooManyTrials = file.TooManyTrials
