-- The law, as it was proved.
use Rattle.sno_pattern.proofs.Cycles.{not_guarded}
use Rattle.sno_pattern.proofs.laws.definitions_with_a_cycle_are_not_guarded.Goals as goal

pub returns : goal.returns
returns c = not_guarded
