-- Both trees are what is read.
use Rattle.sno_read.proofs.CompleteTexts.{one_rule_tree_law}
use Rattle.sno_read.proofs.laws.one_rule_tree.Goals as goal

pub returns : goal.returns
returns c = one_rule_tree_law
