-- The rows so far, with the values that are left, give the same result.
use Rattle.std.proofs.Common.{◌≡◌, [], drop, map}
use Rattle.sno_document.specs.Shape.{pair_row, each_row}
use Rattle.sno_document.specs.Trees.{tree_seen}
use Rattle.sno_document.specs.DocumentRows.{pair_seen}
use Rattle.sno_document.proofs.document_rows.pair_rows.Given as goal

abbrev pub invariant-loop-value : goal.invariant-loop-value
invariant-loop-value l = each_row (pair_row l.first l.second) (map pair_seen l.rows.items) (map tree_seen (drop l.value-index l.values)) ≡ each_row (pair_row l.first l.second) [] (map tree_seen l.values)
