use Rattle.std.proofs.Common.{refl}
use Rattle.sno_store.specs.Shown.{lines_left}
use Rattle.sno_store.proofs.lines.LinesIter.of_file.Goals as goal

pub returns : goal.returns
unfolding lines_left
returns c = refl
