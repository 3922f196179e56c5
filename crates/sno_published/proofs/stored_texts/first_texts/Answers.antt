-- One more text is shared.
use Rattle.sno_published.proofs.Replays.{first_more}
use Rattle.sno_published.proofs.stored_texts.first_texts.Goals as goal

pub loop-place-preserved : goal.loop-place-preserved
loop-place-preserved c =
    rw c.in_ok-push.ensures.items (first_more c.args.opening.now.texts c.loop-place.place c.loop-place.stored.items c.in_ok-text.text c.loop-place.invariant c.in_ok-text.ensures)
