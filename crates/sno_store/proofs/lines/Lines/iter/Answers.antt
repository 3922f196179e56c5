use Rattle.std.proofs.Common.{ap}
use Rattle.sno_store.specs.Lines.{recovered}
use Rattle.sno_store.specs.Shown.{lines_left}
use Rattle.sno_store.proofs.lines.Lines.iter.Goals as goal

pub returns : goal.returns
unfolding lines_left
returns c = ap recovered c.deref.ensures.value
