-- One line more.
use Rattle.std.proofs.Common.{arith}
use Rattle.sno_edit.proofs.HunkLemmas.{old_counted}
use Rattle.sno_edit.proofs.hunks.old_len.Goals as goal

pub loop-line-preserved : goal.loop-line-preserved
loop-line-preserved c = (
  old_counted _ _ _ _ _ c.loop-line-test.true c.loop-line.invariant.0 c.old_count-count.ensures.is,
  omega (arith, c.old_count-count.ensures.within, c.loop-line.invariant.1),
)
