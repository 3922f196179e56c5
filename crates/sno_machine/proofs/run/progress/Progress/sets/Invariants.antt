-- What was copied are the first of the assignments, and there is room for all.
use Rattle.std.proofs.Common.{◌≡◌, ◌≤◌, map, take, length, vec_capacity, vec_len}
use Rattle.sno_machine.specs.Noted.{noted_assign}
use Rattle.sno_machine.proofs.run.progress.Progress.sets.Given as goal

abbrev pub invariant-loop-noted : goal.invariant-loop-noted
invariant-loop-noted l = record {
  copied : l.sets.items ≡ map noted_assign (take l.noted-index l.noted-items);
  count : vec_len l.sets ≡ l.noted-index;
  room : length l.noted-items ≤ vec_capacity l.sets;
}
