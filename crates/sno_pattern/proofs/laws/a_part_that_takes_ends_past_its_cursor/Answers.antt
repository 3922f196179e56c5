-- The law, as it was proved.
use Rattle.sno_pattern.proofs.Taking.{takes_past}
use Rattle.sno_pattern.proofs.laws.a_part_that_takes_ends_past_its_cursor.Goals as goal

pub returns : goal.returns
returns c = takes_past
