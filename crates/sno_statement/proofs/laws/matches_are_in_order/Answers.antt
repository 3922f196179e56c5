-- The law is proved in a file of its own.
use Rattle.sno_statement.proofs.PassOrder.{in_order}
use Rattle.sno_statement.proofs.laws.matches_are_in_order.Goals as goal

pub returns : goal.returns
returns c = in_order
