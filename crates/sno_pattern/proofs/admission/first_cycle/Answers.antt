-- If no definition lies on a cycle, the definitions are guarded.
use Rattle.std.proofs.Common.{arith}
use Rattle.sno_pattern.proofs.Cycles.{none_on_cycle}
use Rattle.sno_pattern.proofs.admission.first_cycle.Goals as goal

pub returns : goal.returns
returns c = none_on_cycle c.args.bodies.now c.loop-start.start (omega arith) c.loop-start.invariant
