use Rattle.std.proofs.Common.{drop, map}
use Rattle.std.specs.Arc.{arc_value}
use Rattle.sno_desk.specs.Turns.{Goes, HasGrown, IsSubmitted, every, position}
use Rattle.sno_desk.proofs.workers.Shift.replies.Given as goal

-- the replies so far, and then those to the jobs that are left, are for the seat's jobs; and the seat has gone on
abbrev pub invariant-loop-job : goal.invariant-loop-job
invariant-loop-job g l = record {
  goes : Goes (IsSubmitted (g.G.Gate.shuts l.self.gate.now) l.self.tries g.L.Naming.opening g.L.Ledger.parts) (position l.fn.seat.accepted l.fn.seat.seen)
      (position l.seat.accepted l.seat.seen) (every l.self.workers l.first (map arc_value l.self.jobs.now))
      (every l.self.workers l.wait (map arc_value (drop l.job-index l.self.jobs.now))) l.replies.items;
  grown : HasGrown (position l.fn.seat.accepted l.fn.seat.seen) (position l.seat.accepted l.seat.seen);
}
