-- What is said of the ledger is here so that this proof alone refuses a wrong body.
use Rattle.std.proofs.Common.{rules}
use Rattle.sno_desk.proofs.desk.screen_of.Goals as goal

pub returns-clause-total : goal.returns-clause-total
returns-clause-total g c = search rules

pub returns-clause-rest : goal.returns-clause-rest
returns-clause-rest g c = search rules
