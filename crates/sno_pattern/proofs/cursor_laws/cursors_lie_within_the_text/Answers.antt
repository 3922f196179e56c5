-- The law is proved in a file of its own.
use Rattle.sno_pattern.proofs.AssignedCursors.{outcome_lies}
use Rattle.sno_pattern.proofs.cursor_laws.cursors_lie_within_the_text.Goals as goal

pub returns : goal.returns
returns c = outcome_lies
