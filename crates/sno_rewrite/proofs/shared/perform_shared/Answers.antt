-- What is said of the run's result is here so that this proof alone refuses a wrong body.
use Rattle.std.proofs.Common.{rules}
use Rattle.sno_rewrite.proofs.shared.perform_shared.Goals as goal

pub returns-clause-shared : goal.returns-clause-shared
returns-clause-shared g c = search rules
