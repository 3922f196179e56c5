-- The rows have the members so far.
use Rattle.std.proofs.Common.{take}
use Rattle.sno_primitives.specs.Rows.{AreRowsOf}
use Rattle.sno_primitives.proofs.rows.Rows.of.Given as goal

abbrev pub invariant-loop-member : goal.invariant-loop-member
invariant-loop-member l = AreRowsOf (take l.member-index l.member-items) l.rows
