-- The proposal's view is the seat's.
use Rattle.std.proofs.Common.{◌∙◌, ap}
use Rattle.std.specs.Arc.{arc_value}
use Rattle.sno_statement.specs.Statement.{Statement}
use Rattle.sno_desk.proofs.Attempts.{proposed_on}
use Rattle.sno_desk.proofs.seats.Seat.propose.Goals as goal

pub returns-clause-view : goal.returns-clause-view
returns-clause-view g c =
    let name = c.text.ensures ∙ ap (λ (t : Statement). t.text) c.deref.ensures in
    let made = proposed_on g.L.Naming.opening c.snapshot.new.self.seen (arc_value c.args.statement.now) (arc_value c.in_ok-shared.shared) c.text.result.now c.in_ok-snapshot.snapshot
    c.in_ok-proposal.proposal name c.in_ok-shared.ensures c.in_ok-snapshot.ensures.gives c.in_ok-proposal.ensures in
    made.prefix
