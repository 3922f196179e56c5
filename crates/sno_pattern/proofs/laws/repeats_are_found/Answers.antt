-- The law, as it was proved.
use Rattle.sno_pattern.proofs.Repeats.{repeats_are_found}
use Rattle.sno_pattern.proofs.laws.repeats_are_found.Goals as goal

pub returns : goal.returns
returns c = repeats_are_found
