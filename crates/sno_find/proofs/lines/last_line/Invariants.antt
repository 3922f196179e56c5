-- What was gone over is the end of the last line.
use Rattle.std.proofs.Common.{◌≡◌, ◌≤◌, ◌++◌, drop, length, take}
use Rattle.sno_edit.specs.Positions.{last_line}
use Rattle.sno_find.proofs.lines.last_line.Given as goal

abbrev pub invariant-loop-start : goal.invariant-loop-start
invariant-loop-start l = record {
  within : l.start ≤ length l.bytes;
  line : last_line (take l.start l.bytes) ++ drop l.start l.bytes ≡ last_line l.bytes;
}

abbrev pub decreases-loop-start : goal.decreases-loop-start
decreases-loop-start l = l.start
