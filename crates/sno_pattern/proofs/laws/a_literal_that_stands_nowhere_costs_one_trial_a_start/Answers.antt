-- The law, as it was proved.
use Rattle.sno_pattern.proofs.MissingLiterals.{nowhere_costs_each_start}
use Rattle.sno_pattern.proofs.laws.a_literal_that_stands_nowhere_costs_one_trial_a_start.Goals as goal

pub returns : goal.returns
returns c = nowhere_costs_each_start
