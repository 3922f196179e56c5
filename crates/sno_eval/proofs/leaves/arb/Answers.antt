-- One more End.
use Rattle.std.proofs.Common.{arith, length}
use Rattle.sno_eval.proofs.Ranges.{ends_more}
use Rattle.sno_eval.proofs.leaves.arb.Goals as goal

pub loop-end-preserved : goal.loop-end-preserved
loop-end-preserved c = ends_more _ _ c.loop-end.end (length c.args.text.now) _ (omega arith) c.in_ok-push_further.ensures c.loop-end.invariant
