-- The names so far, with the rows that are left, give the same result.
use Rattle.std.proofs.Common.{◌≡◌, ◌+◌, [], drop, map, length}
use Rattle.sno_document.specs.Document.{names_from}
use Rattle.sno_document.specs.DocumentRows.{pair_seen}
use Rattle.sno_document.proofs.definitions.names_in.Given as goal

abbrev pub invariant-loop-name : goal.invariant-loop-name
invariant-loop-name l = record {
  rest : names_from (l.name-index + 1) l.names.items (map pair_seen (drop l.name-index l.rows)) ≡ names_from 1 [] (map pair_seen l.rows);
  count : length l.names.items ≡ l.name-index;
}
