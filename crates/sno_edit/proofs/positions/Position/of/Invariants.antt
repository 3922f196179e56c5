-- The line and the column of the place so far.
use Rattle.std.proofs.Common.{◌≡◌, ◌≤◌, ◌+◌}
use Rattle.sno_edit.specs.Positions.{column_at, line_at}
use Rattle.sno_edit.proofs.positions.Position.of.Given as goal

abbrev pub invariant-loop-byte : goal.invariant-loop-byte
invariant-loop-byte l =
    (l.line ≡ line_at l.before l.byte-index) × (l.column ≡ column_at l.before l.byte-index)
    × (l.line ≤ l.byte-index + 1) × (l.column ≤ l.byte-index + 1)
