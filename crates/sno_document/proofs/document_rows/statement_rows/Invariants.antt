-- The rows so far, with the values that are left, give the same result.
use Rattle.std.proofs.Common.{◌≡◌, [], drop, map}
use Rattle.sno_document.specs.Shape.{statement_row, each_row}
use Rattle.sno_document.specs.Trees.{tree_seen}
use Rattle.sno_document.specs.DocumentRows.{statement_seen}
use Rattle.sno_document.proofs.document_rows.statement_rows.Given as goal

abbrev pub invariant-loop-value : goal.invariant-loop-value
invariant-loop-value l = each_row statement_row (map statement_seen l.rows.items) (map tree_seen (drop l.value-index l.values)) ≡ each_row statement_row [] (map tree_seen l.values)
