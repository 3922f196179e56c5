-- One statement alone: bytes that are read for definitions that are there already.
use Rattle.std.specs.Prelude.{ℕ, List, Result, false}
use Rattle.sno_pattern.specs.Definitions.{Definitions}
use Rattle.sno_statement.specs.Statement.{Statement}
use Rattle.sno_document.specs.Shape.{statement_row}
use Rattle.sno_document.specs.Document.{value_in, task_row}
use Rattle.sno_document.specs.Faults.{◌>>=◌}
use Rattle.sno_document.specs.declared.faults.DocumentFault.{DocumentFault}
use Rattle.sno_document.specs.declared.modes.Mode.{Mode}

-- statement number s that bytes are: the value, its shape as that of an element of a document's statements, and then what it says
abbrev pub statement_in : Definitions → Mode → ℕ → List ℕ → Result Statement DocumentFault
statement_in rules mode s bytes = value_in bytes >>= λ d. statement_row d >>= λ row. task_row false rules mode s row
