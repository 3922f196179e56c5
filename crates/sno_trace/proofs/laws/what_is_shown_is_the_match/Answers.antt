use Rattle.sno_trace.proofs.Whole.{shown_is_the_match}
use Rattle.sno_trace.proofs.laws.what_is_shown_is_the_match.Goals as goal

pub returns : goal.returns
returns c = shown_is_the_match
