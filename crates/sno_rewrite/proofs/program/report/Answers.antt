-- What is said of the status is here so that this proof alone refuses a wrong body.
use Rattle.std.proofs.Common.{rules}
use Rattle.sno_rewrite.proofs.program.report.Goals as goal

pub returns : goal.returns
returns g c = search rules
