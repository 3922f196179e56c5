-- The statements so far, with the rows that are left, give the same result.
use Rattle.std.proofs.Common.{◌≡◌, ◌+◌, [], drop, false, map, length}
use Rattle.std.specs.Arc.{arc_value}
use Rattle.sno_document.specs.Document.{statements_from}
use Rattle.sno_document.specs.DocumentRows.{statement_seen}
use Rattle.sno_document.specs.LastPatterns.{IsOfNames}
use Rattle.sno_document.proofs.statements.statements.Given as goal

abbrev pub invariant-loop-place : goal.invariant-loop-place
invariant-loop-place l = record {
  rest : statements_from false (arc_value l.rules) l.mode (l.place + 1) (map arc_value l.statements.items) (map statement_seen (drop l.place l.rows))
      ≡ statements_from false (arc_value l.rules) l.mode 1 [] (map statement_seen l.rows);
  count : length l.statements.items ≡ l.place;
  last : IsOfNames false (arc_value l.rules).names l.last;
}
