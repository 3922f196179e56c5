-- The store was looked at, and has its first line.
use Rattle.sno_store.specs.Shown.{lines_in}
use Rattle.sno_durable.proofs.Storing.{begun_looked}
use Rattle.sno_durable.proofs.service.beginning_of.Goals as goal

pub returns-clause-begun : goal.returns-clause-begun
returns-clause-begun g c =
    begun_looked c.in_ok-origin.origin (lines_in c.args.opened.1) c.args.opened.0 c.refuse_other.new.store c.begin_store.new.store c.in_ok-refuse_other.ensures c.in_ok-begin_store.ensures
