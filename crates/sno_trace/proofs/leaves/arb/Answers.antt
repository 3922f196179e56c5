-- One more end, or no trial left for it.
use Rattle.std.proofs.Common.{arith, length}
use Rattle.sno_trace.proofs.Ranges.{up_to_more, one_more, no_more}
use Rattle.sno_trace.proofs.leaves.arb.Goals as goal

pub returns-then-left-eq0 : goal.returns-then-left-eq0
returns-then-left-eq0 c =
    no_more _ _ _ _ _ _ _ _ _ _ _ (up_to_more c.loop-end.end (length c.args.text.now) (omega arith)) c.if-left-eq0.true c.in_ok-push.ensures.items c.loop-end.invariant

pub loop-end-preserved : goal.loop-end-preserved
loop-end-preserved c =
    one_more _ _ _ _ _ _ _ _ _ _ _ _ (up_to_more c.loop-end.end (length c.args.text.now) (omega arith)) (omega arith) (omega arith) c.in_ok-push_tried.ensures c.loop-end.invariant
