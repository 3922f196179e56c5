-- One more place is before the cursor.
use Rattle.std.proofs.Common.{arith}
use Rattle.sno_machine.proofs.BeginningLaws.{past_one_more}
use Rattle.sno_machine.proofs.starts.front_search.past_all.Goals as goal

pub loop-place-preserved : goal.loop-place-preserved
loop-place-preserved c = λ d past.
    past_one_more c.args.places.now c.loop-place.place-index d c.loop-place-test.true (c.loop-place.invariant d (omega (arith, c.after-later.ensures.kept))) (omega (arith, c.after-later.ensures.later))
