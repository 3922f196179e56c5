-- The position after the lines so far, and the line and the column of the place so far.
use Rattle.std.proofs.Common.{◌≡◌, ◌≤◌, ◌-◌}
use Rattle.sno_edit.specs.Positions.{column_at, line_at, position_of}
use Rattle.sno_find.proofs.places.further.Given as goal

abbrev pub invariant-loop-next : goal.invariant-loop-next
invariant-loop-next l = record {
  at : l.at ≡ position_of l.bytes l.at.place;
  before : l.at.place ≤ l.place;
}

abbrev pub decreases-loop-next : goal.decreases-loop-next
decreases-loop-next l = l.place - l.at.place

abbrev pub invariant-loop-index : goal.invariant-loop-index
invariant-loop-index l = record {
  line : l.line ≡ line_at l.bytes l.index;
  column : l.column ≡ column_at l.bytes l.index;
}
