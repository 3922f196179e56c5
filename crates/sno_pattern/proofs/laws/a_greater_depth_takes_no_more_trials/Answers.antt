-- The law, as it was proved.
use Rattle.sno_pattern.proofs.Settled.{trials_settled}
use Rattle.sno_pattern.proofs.laws.a_greater_depth_takes_no_more_trials.Goals as goal

pub returns : goal.returns
returns c = trials_settled
