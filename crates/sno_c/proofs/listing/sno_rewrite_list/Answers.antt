-- What is said of the result is here so that this proof alone refuses a wrong body.
use Rattle.std.proofs.Common.{rules}
use Rattle.sno_c.proofs.listing.sno_rewrite_list.Goals as goal

pub returns-then-trials-eq0-clause-none : goal.returns-then-trials-eq0-clause-none
returns-then-trials-eq0-clause-none c = search rules

pub run_serial-requires : goal.run_serial-requires
run_serial-requires c = search rules

pub returns-in-Ok-clause-limit : goal.returns-in-Ok-clause-limit
returns-in-Ok-clause-limit c = search rules

pub returns-in-Err-clause-limit : goal.returns-in-Err-clause-limit
returns-in-Err-clause-limit c = search rules
