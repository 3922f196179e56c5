-- The law, as it was proved.
use Rattle.sno_pattern.proofs.Repetition.{unrolled}
use Rattle.sno_pattern.proofs.laws.a_repetition_is_null_or_goes_on.Goals as goal

pub returns : goal.returns
returns c = unrolled
