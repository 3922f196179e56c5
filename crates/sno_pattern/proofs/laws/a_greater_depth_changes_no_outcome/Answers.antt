-- The law, as it was proved.
use Rattle.sno_pattern.proofs.Settled.{outcome_settled}
use Rattle.sno_pattern.proofs.laws.a_greater_depth_changes_no_outcome.Goals as goal

pub returns : goal.returns
returns c = outcome_settled
