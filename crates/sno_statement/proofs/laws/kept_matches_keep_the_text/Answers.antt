-- The law is proved in a file of its own.
use Rattle.sno_statement.proofs.PassOrder.{kept_text}
use Rattle.sno_statement.proofs.laws.kept_matches_keep_the_text.Goals as goal

pub returns : goal.returns
returns c = kept_text
