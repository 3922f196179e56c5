-- The first ends from the cursor on are found, and where what is open before it is closed.
use Rattle.std.proofs.Common.{◌≡◌, length, reverse}
use Rattle.sno_primitives.specs.Mates.{AreFirstEnds}
use Rattle.sno_primitives.specs.Walks.{IsStack}
use Rattle.sno_primitives.proofs.mates.Mates.of.Given as goal

abbrev pub invariant-loop-c : goal.invariant-loop-c
invariant-loop-c l = record {
  whole : length l.ends.items ≡ length l.text;
  right : AreFirstEnds l.text l.c l.ends.items;
  stack : IsStack l.text l.c (reverse l.closed.items);
}
