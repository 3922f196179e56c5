-- Each file adds its report.
use Rattle.std.proofs.Common.{arith}
use Rattle.sno_edit.proofs.BatchLemmas.{settled_more}
use Rattle.sno_edit.proofs.batches.settle_all.Goals as goal

pub loop-file-preserved : goal.loop-file-preserved
loop-file-preserved c = (
  settled_more _ _ _ _ _ _ _ _ _ c.loop-file-test.true c.loop-file.invariant.0 c.settle-end.ensures c.in-Ok.ensures.items,
  omega (arith, c.in-Ok.ensures.len, c.loop-file.invariant.1),
  omega (arith, c.in-Ok.ensures.capacity, c.loop-file.invariant.2),
)
