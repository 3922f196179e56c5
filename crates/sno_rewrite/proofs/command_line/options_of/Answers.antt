-- What is returned for a fault, and what no arguments give.
use Rattle.sno_rewrite.proofs.CommandLineLemmas.{fault_result, plain_result}
use Rattle.sno_rewrite.proofs.command_line.options_of.Goals as goal

pub returns-in-Ok-clause-plain : goal.returns-in-Ok-clause-plain
returns-in-Ok-clause-plain c = λ none. plain_result c.args.words.now _ c.options_in.result c.check_limits.result c.in-Ok.ensures.found c.options_in.ensures c.check_limits.ensures.checked none

pub returns-in-Err-clause-parsed : goal.returns-in-Err-clause-parsed
returns-in-Err-clause-parsed c = fault_result _ _ c.fault_of_error.result c.in-Err.ensures.fault c.fault_of_error.ensures
