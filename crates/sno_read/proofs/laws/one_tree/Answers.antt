-- Both trees are what is read.
use Rattle.sno_read.proofs.CompleteTexts.{one_tree_law}
use Rattle.sno_read.proofs.laws.one_tree.Goals as goal

pub returns : goal.returns
returns c = one_tree_law
