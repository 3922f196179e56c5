-- The old lines so far are counted.
use Rattle.std.proofs.Common.{◌≡◌, ◌≤◌, length, take}
use Rattle.sno_edit.specs.Scripts.{old_lines}
use Rattle.sno_edit.proofs.hunks.old_len.Given as goal

abbrev pub invariant-loop-line : goal.invariant-loop-line
invariant-loop-line l = (l.count ≡ length (old_lines (take l.line-index l.lines))) × (l.count ≤ l.line-index)
