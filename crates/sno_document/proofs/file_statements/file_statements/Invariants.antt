-- The statements so far, with the rows that are left, give the same result.
use Rattle.std.proofs.Common.{◌≡◌, ◌+◌, [], drop, true, map, length}
use Rattle.std.specs.Arc.{arc_value}
use Rattle.sno_document.specs.Document.{statements_from}
use Rattle.sno_document.specs.DocumentRows.{statement_seen}
use Rattle.sno_document.specs.LastPatterns.{IsOfNames}
use Rattle.sno_document.proofs.file_statements.file_statements.Given as goal

abbrev pub invariant-loop-place : goal.invariant-loop-place
invariant-loop-place l = record {
  rest : statements_from true (arc_value l.rules) l.mode (l.place + 1) l.statements.items (map statement_seen (drop l.place l.rows))
      ≡ statements_from true (arc_value l.rules) l.mode 1 [] (map statement_seen l.rows);
  count : length l.statements.items ≡ l.place;
  last : IsOfNames true (arc_value l.rules).names l.last;
}
