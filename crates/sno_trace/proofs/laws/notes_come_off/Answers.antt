use Rattle.sno_trace.proofs.Erasing.{notes_off}
use Rattle.sno_trace.proofs.laws.notes_come_off.Goals as goal

pub returns : goal.returns
returns c = notes_off
