-- One line more.
use Rattle.std.proofs.Common.{arith}
use Rattle.sno_edit.proofs.HunkLemmas.{new_counted}
use Rattle.sno_edit.proofs.hunks.new_len.Goals as goal

pub loop-line-preserved : goal.loop-line-preserved
loop-line-preserved c = (
  new_counted _ _ _ _ _ c.loop-line-test.true c.loop-line.invariant.0 c.new_count-count.ensures.is,
  omega (arith, c.new_count-count.ensures.within, c.loop-line.invariant.1),
)
