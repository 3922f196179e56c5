-- What is said of the result is here so that this proof alone refuses a wrong body.
use Rattle.std.proofs.Common.{rules}
use Rattle.sno_c.proofs.listing.put_listing.Goals as goal

pub returns-then-len-buffer-clause-longer : goal.returns-then-len-buffer-clause-longer
returns-then-len-buffer-clause-longer c = search rules

pub returns-then-len-buffer-clause-written : goal.returns-then-len-buffer-clause-written
returns-then-len-buffer-clause-written c = search rules

pub returns-then-len-buffer-clause-inside : goal.returns-then-len-buffer-clause-inside
returns-then-len-buffer-clause-inside c = search rules
