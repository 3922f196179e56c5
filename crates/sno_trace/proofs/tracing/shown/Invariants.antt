-- Each time twice as many trials are shown.
use Rattle.std.proofs.Common.{◌-◌, ◌≤◌}
use Rattle.sno_trace.proofs.tracing.shown.Given as goal

abbrev pub invariant-loop-most : goal.invariant-loop-most
invariant-loop-most l = 1 ≤ l.most

abbrev pub decreases-loop-most : goal.decreases-loop-most
decreases-loop-most l = l.limit - l.most
