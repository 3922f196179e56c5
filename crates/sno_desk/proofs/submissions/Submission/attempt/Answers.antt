-- What the calls of one attempt say of its result.
use Rattle.std.proofs.Common.{◌∙◌, ap}
use Rattle.std.specs.Arc.{arc_value}
use Rattle.sno_statement.specs.Statement.{Statement}
use Rattle.sno_desk.proofs.Attempts.{proposed_on, committed_no_text, committed_justified, committed_at, received_at}
use Rattle.sno_desk.proofs.submissions.Submission.attempt.Goals as goal

pub commit-requires : goal.commit-requires
commit-requires g c =
    let name = c.text.ensures ∙ ap (λ (t : Statement). t.text) c.deref.ensures in
    let made = proposed_on g.L.Naming.opening c.snapshot.new.self.seen (arc_value c.args.self.now.statement.now) (arc_value c.in_ok-shared.shared) c.text.result.now c.in_ok-snapshot.snapshot
    c.in_ok-proposal.proposal name c.in_ok-shared.ensures c.in_ok-snapshot.ensures.gives c.in_ok-proposal.ensures in
    record { view = made.prefix }

pub returns-in-Ok-clause-at : goal.returns-in-Ok-clause-at
returns-in-Ok-clause-at g c =
    received_at g.L.Naming.opening c.args.seat.now.seen c.snapshot.new.self.seen c.commit.new.seat.seen (arc_value c.args.self.now.statement.now) c.in-Ok.receipt
    c.snapshot.ensures.begins c.in-Ok.ensures.later c.in-Ok.ensures.in_view

pub returns-clause-no_text : goal.returns-clause-no_text
returns-clause-no_text g c =
    let name = c.text.ensures ∙ ap (λ (t : Statement). t.text) c.deref.ensures in
    let made = proposed_on g.L.Naming.opening c.snapshot.new.self.seen (arc_value c.args.self.now.statement.now) (arc_value c.in_ok-shared.shared) c.text.result.now c.in_ok-snapshot.snapshot
    c.in_ok-proposal.proposal name c.in_ok-shared.ensures c.in_ok-snapshot.ensures.gives c.in_ok-proposal.ensures in
    rw c.from.ensures
    (committed_no_text c.in-Err.fault g.L.Naming.opening c.snapshot.new.self.seen c.commit.new.seat.seen (arc_value c.args.self.now.statement.now) c.in_ok-proposal.proposal made c.in-Err.ensures.cause)

pub returns-clause-justified : goal.returns-clause-justified
returns-clause-justified g c =
    let name = c.text.ensures ∙ ap (λ (t : Statement). t.text) c.deref.ensures in
    let made = proposed_on g.L.Naming.opening c.snapshot.new.self.seen (arc_value c.args.self.now.statement.now) (arc_value c.in_ok-shared.shared) c.text.result.now c.in_ok-snapshot.snapshot
    c.in_ok-proposal.proposal name c.in_ok-shared.ensures c.in_ok-snapshot.ensures.gives c.in_ok-proposal.ensures in
    rw c.from.ensures
    (committed_justified c.in-Err.fault (g.G.Gate.shuts c.args.self.now.gate.now) c.args.self.now.tries g.L.Naming.opening c.snapshot.new.self.seen c.commit.new.seat.seen (arc_value c.args.self.now.statement.now)
    c.in_ok-proposal.proposal made c.commit.ensures.begins c.in-Err.ensures.cause)

pub returns-clause-at : goal.returns-clause-at
returns-clause-at g c =
    let name = c.text.ensures ∙ ap (λ (t : Statement). t.text) c.deref.ensures in
    let made = proposed_on g.L.Naming.opening c.snapshot.new.self.seen (arc_value c.args.self.now.statement.now) (arc_value c.in_ok-shared.shared) c.text.result.now c.in_ok-snapshot.snapshot
    c.in_ok-proposal.proposal name c.in_ok-shared.ensures c.in_ok-snapshot.ensures.gives c.in_ok-proposal.ensures in
    rw c.from.ensures
    (committed_at c.in-Err.fault g.L.Naming.opening c.args.seat.now.seen c.snapshot.new.self.seen c.commit.new.seat.seen (arc_value c.args.self.now.statement.now)
    c.in_ok-proposal.proposal made c.snapshot.ensures.begins c.commit.ensures.begins c.in-Err.ensures.cause)
