-- The fault of an array is the fault of the whole if the arrays before it are read.
use Rattle.sno_document.specs.Shape.{arrays_of}
use Rattle.sno_document.specs.DocumentRows.{rows_seen}
use Rattle.sno_document.proofs.FaultLemmas.{gives_err}
use Rattle.sno_document.proofs.document_rows.arrays_of.Goals as goal

pub returns-in_err-patterns : goal.returns-in_err-patterns
unfolding arrays_of
returns-in_err-patterns c = gives_err rows_seen _ _ _ _ c.from_residual.ensures.1 c.in_err-patterns.ensures

pub returns-in_err-texts : goal.returns-in_err-texts
unfolding arrays_of
returns-in_err-texts c = rw c.in_ok-patterns.ensures (gives_err rows_seen _ _ _ _ c.from_residual-in_err-texts.ensures.1 c.in_err-texts.ensures)

pub returns-in_err-statements : goal.returns-in_err-statements
unfolding arrays_of
returns-in_err-statements c =
    rw (c.in_ok-patterns.ensures, c.in_ok-texts.ensures) (gives_err rows_seen _ _ _ _ c.from_residual-in_err-statements.ensures.1 c.in_err-statements.ensures)
