-- What holds of the call holds of the result.
use Rattle.std.proofs.Common.{IfSome, subst}
use Rattle.sno_machine.specs.Beginnings.{IsRunStart}
use Rattle.sno_machine.proofs.starts.passing.next_start.Goals as goal

pub returns-in-None-clause-refused : goal.returns-in-None-clause-refused
returns-in-None-clause-refused c = λ bodies p k deep are run. c.first_start.ensures.refused bodies p k deep are

pub returns-in-Some-clause-refused : goal.returns-in-Some-clause-refused
returns-in-Some-clause-refused c = λ bodies p k deep are run. c.pass_runs.ensures.refused bodies p k deep are (subst (λ o. IfSome o (IsRunStart bodies p)) c.in-Some.is run)
