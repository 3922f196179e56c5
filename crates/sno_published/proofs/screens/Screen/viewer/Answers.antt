-- A reader may be added at any time.
use Rattle.sno_published.proofs.Views.{admits}
use Rattle.sno_published.proofs.screens.Screen.viewer.Goals as goal

pub reader-requires : goal.reader-requires
reader-requires g c = admits
