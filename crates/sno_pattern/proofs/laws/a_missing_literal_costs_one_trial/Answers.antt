-- The law, as it was proved.
use Rattle.sno_pattern.proofs.MissingLiterals.{missing_costs_one}
use Rattle.sno_pattern.proofs.laws.a_missing_literal_costs_one_trial.Goals as goal

pub returns : goal.returns
returns c = missing_costs_one
