-- The result is about what was entered.
use Rattle.std.proofs.Common.{◌∙◌}
use Rattle.sno_published.proofs.Prefixes.{prefix_self}
use Rattle.sno_published.proofs.viewers.Viewer.snapshots.Goals as goal

pub invariant_of-self-2 : goal.invariant_of-self-2
invariant_of-self-2 g c =
    (c.in_ok-reading.ensures.history, c.in_ok-reading.ensures.entered.2, c.in_ok-reading.ensures.entered.3, rw (c.leave.ensures.1 ∙ c.in_ok-reading.ensures.entered.1) (prefix_self c.begin.new.front.entries), c.self.invariant.4)
