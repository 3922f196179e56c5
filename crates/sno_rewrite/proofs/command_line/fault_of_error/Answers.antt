-- What is said of the result is here so that this proof alone refuses a wrong body.
use Rattle.std.proofs.Common.{rules}
use Rattle.sno_rewrite.proofs.command_line.fault_of_error.Goals as goal

pub returns-in_default-kind : goal.returns-in_default-kind
returns-in_default-kind c = search rules
