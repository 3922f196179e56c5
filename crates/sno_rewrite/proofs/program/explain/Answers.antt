-- What is said of the status is here so that this proof alone refuses a wrong body.
use Rattle.std.proofs.Common.{rules}
use Rattle.sno_rewrite.proofs.program.explain.Goals as goal

pub returns-in-Usage : goal.returns-in-Usage
returns-in-Usage g c = search rules
