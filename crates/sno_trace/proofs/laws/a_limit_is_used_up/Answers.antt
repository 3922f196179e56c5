use Rattle.sno_trace.proofs.Whole.{shown_is_full}
use Rattle.sno_trace.proofs.laws.a_limit_is_used_up.Goals as goal

pub returns : goal.returns
returns c = shown_is_full
