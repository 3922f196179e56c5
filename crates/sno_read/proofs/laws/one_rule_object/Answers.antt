-- Both objects are what is read.
use Rattle.sno_read.proofs.ObjectTexts.{one_rule_object_law}
use Rattle.sno_read.proofs.laws.one_rule_object.Goals as goal

pub returns : goal.returns
returns c = one_rule_object_law
