-- The ends from the block on are found.
use Rattle.std.proofs.Common.{◌≡◌, ◌+◌, ◌/◌, length}
use Rattle.sno_primitives.specs.Runs.{AreRunEnds}
use Rattle.sno_primitives.proofs.run_ends.RunEnds.of.Given as goal

abbrev pub invariant-loop-block : goal.invariant-loop-block
invariant-loop-block l = record {
  whole : length l.ends.items ≡ length l.text / 64 + 1;
  right : AreRunEnds l.inside l.set l.text l.block l.ends.items;
}
