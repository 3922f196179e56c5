-- The law, as it was proved.
use Rattle.sno_pattern.proofs.Depth.{settled}
use Rattle.sno_pattern.proofs.laws.a_greater_depth_gives_nothing_more.Goals as goal

pub returns : goal.returns
returns c = settled
