-- The bodies so far, with the rows that are left, give the same result.
use Rattle.std.proofs.Common.{◌≡◌, [], drop, map, length, IsTrue}
use Rattle.std.specs.List.{list_all}
use Rattle.sno_pattern.specs.Tree.{trees, refs_below}
use Rattle.sno_document.specs.Document.{bodies_from}
use Rattle.sno_document.specs.DocumentRows.{pair_seen}
use Rattle.sno_document.proofs.definitions.bodies.Given as goal

abbrev pub invariant-loop-place : goal.invariant-loop-place
invariant-loop-place l = record {
  rest : bodies_from l.wide l.names l.place (trees l.bodies.items) (map pair_seen (drop l.place l.rows)) ≡ bodies_from l.wide l.names 0 [] (map pair_seen l.rows);
  covered : IsTrue (list_all (refs_below (length l.names)) (trees l.bodies.items));
  count : length l.bodies.items ≡ l.place;
}
