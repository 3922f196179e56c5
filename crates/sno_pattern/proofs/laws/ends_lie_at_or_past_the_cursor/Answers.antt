-- The law, as it was proved.
use Rattle.sno_pattern.proofs.Within.{within}
use Rattle.sno_pattern.proofs.laws.ends_lie_at_or_past_the_cursor.Goals as goal

pub returns : goal.returns
returns c = within
