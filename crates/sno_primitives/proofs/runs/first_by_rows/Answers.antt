-- The first member comes after the characters that were passed.
use Rattle.sno_pattern.specs.Classes.{has}
use Rattle.sno_primitives.proofs.Seeking.{first_after, none_after}
use Rattle.sno_primitives.proofs.runs.first_by_rows.Goals as goal

pub returns-then-passed-rest : goal.returns-then-passed-rest
returns-then-passed-rest c = first_after (has c.args.set.now) c.args.rest.now c.long_run-passed.result c.long_run-passed.ensures.exact c.if-passed-rest.true

pub returns-else-passed-rest : goal.returns-else-passed-rest
returns-else-passed-rest c = none_after (has c.args.set.now) c.args.rest.now c.long_run-passed.result c.long_run-passed.ensures.exact c.if-passed-rest.false
