-- Entering shows nothing new.
use Rattle.sno_published.proofs.Prefixes.{prefix_self}
use Rattle.sno_published.proofs.Views.{sees}
use Rattle.sno_published.proofs.viewers.begin.Goals as goal

pub enter_as-requires : goal.enter_as-requires
enter_as-requires g c x = sees _ _ x x (prefix_self x)
