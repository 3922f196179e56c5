-- Sixteen characters on, or where the first of them stops the run.
use Rattle.std.proofs.Common.{arith}
use Rattle.sno_primitives.specs.Rows.{goes_by_rows}
use Rattle.sno_primitives.proofs.Lanes.{through, stopped_at}
use Rattle.sno_primitives.proofs.rows.Rows.long_run.Goals as goal

pub returns-then-stops-ne0 : goal.returns-then-stops-ne0
returns-then-stops-ne0 c =
    let stop = stopped_at (goes_by_rows c.args.inside c.args.self.now) c.args.text.now c.loop-passed.passed c.stops-stops.result (omega arith) c.stops-stops.ensures c.if-stops-ne0.true in
    omega (arith, stop, c.loop-passed.invariant.on)

pub loop-passed-preserved : goal.loop-passed-preserved
loop-passed-preserved c =
    let on = through (goes_by_rows c.args.inside c.args.self.now) c.args.text.now c.loop-passed.passed c.stops-stops.result (omega arith) c.stops-stops.ensures c.if-stops-ne0.false in
    record { on = omega (arith, on, c.loop-passed.invariant.on); within = omega arith }
