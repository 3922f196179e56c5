-- The fault of an array is the fault of the whole if the arrays before it are read.
use Rattle.sno_document.specs.Rules.{rule_arrays_of}
use Rattle.sno_document.specs.DocumentRows.{rows_seen}
use Rattle.sno_document.proofs.FaultLemmas.{gives_err}
use Rattle.sno_document.proofs.rules.rule_arrays_of.Goals as goal

pub returns-in_err-patterns : goal.returns-in_err-patterns
unfolding rule_arrays_of
returns-in_err-patterns c = gives_err rows_seen _ _ _ _ c.from_residual.ensures.1 c.in_err-patterns.ensures

pub returns-in_err-statements : goal.returns-in_err-statements
unfolding rule_arrays_of
returns-in_err-statements c = rw c.in_ok-patterns.ensures (gives_err rows_seen _ _ _ _ c.from_residual-in_err-statements.ensures.1 c.in_err-statements.ensures)
