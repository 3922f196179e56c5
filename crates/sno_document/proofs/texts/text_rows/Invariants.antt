-- The texts so far, with the rows that are left, give the same result.
use Rattle.std.proofs.Common.{◌≡◌, ◌+◌, [], drop, map, length}
use Rattle.sno_document.specs.Document.{texts_from}
use Rattle.sno_document.specs.DocumentRows.{pair_seen}
use Rattle.sno_document.proofs.texts.text_rows.Given as goal

abbrev pub invariant-loop-place : goal.invariant-loop-place
invariant-loop-place l = record {
  rest : texts_from (l.place + 1) l.texts.items (map pair_seen (drop l.place l.rows)) ≡ texts_from 1 [] (map pair_seen l.rows);
  count : length l.texts.items ≡ l.place;
}
