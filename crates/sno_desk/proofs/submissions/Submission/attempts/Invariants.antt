use Rattle.std.proofs.Common.{◌≡◌}
use Rattle.std.specs.Arc.{arc_value}
use Rattle.sno_desk.proofs.Attempts.{HasCome}
use Rattle.sno_desk.proofs.submissions.Submission.attempts.Given as goal

-- no attempt so far was accepted, and each was lost because the version rose
abbrev pub invariant-loop-attempt : goal.invariant-loop-attempt
invariant-loop-attempt g l = (l.seat.accepted ≡ l.fn.seat.accepted) × HasCome g.L.Naming.opening l.fn.seat.seen l.seat.seen (arc_value l.self.statement.now) l.attempt
