-- The rows so far, with the values that are left, give the same result.
use Rattle.std.proofs.Common.{◌≡◌, [], drop, map}
use Rattle.sno_document.specs.Shape.{each_row}
use Rattle.sno_document.specs.Rules.{rule_row}
use Rattle.sno_document.specs.Trees.{tree_seen}
use Rattle.sno_document.specs.DocumentRows.{statement_seen}
use Rattle.sno_document.proofs.rules.rule_rows.Given as goal

abbrev pub invariant-loop-value : goal.invariant-loop-value
invariant-loop-value l = each_row rule_row (map statement_seen l.rows.items) (map tree_seen (drop l.value-index l.values)) ≡ each_row rule_row [] (map tree_seen l.values)
