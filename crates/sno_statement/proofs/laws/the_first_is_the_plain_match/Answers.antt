-- The law is proved in a file of its own.
use Rattle.sno_statement.proofs.PassOrder.{first_is_plain}
use Rattle.sno_statement.proofs.laws.the_first_is_the_plain_match.Goals as goal

pub returns : goal.returns
returns c = first_is_plain
