use Rattle.sno_trace.proofs.Honesty.{notes_honest}
use Rattle.sno_trace.proofs.laws.notes_are_honest.Goals as goal

pub returns : goal.returns
returns c = notes_honest
