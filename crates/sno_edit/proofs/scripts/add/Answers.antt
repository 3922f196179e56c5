-- Each text grows by its part of the line.
use Rattle.sno_edit.proofs.ScriptLemmas.{new_more, old_more}
use Rattle.sno_edit.proofs.scripts.add.Goals as goal

pub loop-line-preserved : goal.loop-line-preserved
loop-line-preserved c =
    (old_more _ _ _ _ _ _ _ c.loop-line-test.true c.loop-line.invariant.0 c.in_ok-push.ensures.items, new_more _ _ _ _ _ _ _ c.loop-line-test.true c.loop-line.invariant.1 c.in_ok-push.ensures.items)
