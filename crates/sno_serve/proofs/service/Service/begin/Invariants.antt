-- what was accepted through the seat so far is of given statements
use Rattle.std.proofs.Common.{map}
use Rattle.std.specs.Arc.{arc_value}
use Rattle.sno_desk.specs.Turns.{position}
use Rattle.sno_serve.specs.Accepted.{HasServed, IsGiven}
use Rattle.sno_serve.proofs.service.Service.begin.Given as goal

abbrev pub invariant-loop-statement : goal.invariant-loop-statement
invariant-loop-statement g l =
    HasServed (IsGiven (arc_value l.self.rules) (map arc_value l.self.statements.items) l.self.mode) (position l.fn.seat.accepted l.fn.seat.seen) (position l.seat.accepted l.seat.seen)
