-- The one attempt, by the step that decides it.
use Rattle.std.proofs.Common.{◌≡◌, ◌≤◌, ◌∙◌, ℕ, List, length, ap, sym, subst, arith}
use Rattle.std.specs.Prelude.{Err}
use Rattle.std.specs.Arc.{arc_value}
use Rattle.sno_statement.specs.Statement.{Statement}
use Rattle.sno_book.specs.Proposals.{GivesProposal}
use Rattle.sno_book.specs.Snapshots.{Snapshot}
use Rattle.sno_published.proofs.Prefixes.{prefix_length, prefix_trans}
use Rattle.sno_desk.proofs.Attempts.{has_place, proposed_on}
use Rattle.sno_desk.specs.Faults.{of_snapshot, of_statement}
use Rattle.sno_desk.specs.Seen.{GivesSeen, IsSeen}
use Rattle.sno_desk.specs.declared.faults.SubmitFault.TheVariants.{Memory}
use Rattle.sno_serve.specs.AtVersion.{AtResult, IsChanged, IsResultAt, Refuses, receipts_at}
use Rattle.sno_serve.specs.declared.at_version.AtFault.{AtFault}
use Rattle.sno_serve.specs.declared.at_version.AtFault.TheVariants.{Refused}
use Rattle.sno_serve.proofs.AtVersion.{committed, committed_refuses, is_err, performed_refuses, seen_changed, seen_refuses}
use Rattle.sno_serve.proofs.at_version.submit_at.Goals as goal

pub returns-in_err-snapshot : goal.returns-in_err-snapshot
returns-in_err-snapshot g c =
    let opening = g.L.Naming.opening in
    let first = c.args.seat.now.seen in
    let seen = c.snapshot.new.self.seen in
    let s = arc_value c.args.statement.now in
    let name = c.text.ensures ∙ ap (λ (t : Statement). t.text) c.deref.ensures in
    let fault = c.in_err-snapshot.field-0.0 in
    let gave = is_err c.from_residual.result (Refused (of_snapshot fault)) c.from_residual.ensures.1 in
    let none : receipts_at c.from_residual.result ≡ 0 = ap receipts_at gave in
    let refuses = seen_refuses fault opening seen s (subst (λ (n : List ℕ). GivesSeen (Err fault) opening seen n) name c.in_err-snapshot.ensures.gives) in
    record {
      result = subst (λ (x : AtResult). IsResultAt opening first seen s c.args.version x) (sym gave) refuses;
      begins = c.snapshot.ensures.begins;
      counted = omega (arith, none, c.snapshot.ensures.same);
    }

pub returns-then-is_other : goal.returns-then-is_other
returns-then-is_other g c =
    let opening = g.L.Naming.opening in
    let first = c.args.seat.now.seen in
    let seen = c.snapshot.new.self.seen in
    let s = arc_value c.args.statement.now in
    let name = c.text.ensures ∙ ap (λ (t : Statement). t.text) c.deref.ensures in
    let there = subst (λ (n : List ℕ). IsSeen opening seen n c.in_ok-snapshot.snapshot) name c.in_ok-snapshot.ensures.gives in
    let level = ap (λ (x : Snapshot). x.version) (sym c.snapshot-2.view_is) in
    let changed = seen_changed opening first seen s c.args.version c.in_ok-snapshot.snapshot there (λ q. c.if-is_other.true (sym level ∙ q)) in
    record {
      result = subst (λ (n : ℕ). IsChanged opening seen s c.args.version n) level changed;
      begins = c.snapshot.ensures.begins;
      counted = omega (arith, c.snapshot.ensures.same);
    }

pub returns-in_err-shared : goal.returns-in_err-shared
returns-in_err-shared g c =
    let opening = g.L.Naming.opening in
    let first = c.args.seat.now.seen in
    let seen = c.snapshot.new.self.seen in
    let s = arc_value c.args.statement.now in
    let name = c.text.ensures ∙ ap (λ (t : Statement). t.text) c.deref.ensures in
    let there = subst (λ (n : List ℕ). IsSeen opening seen n c.in_ok-snapshot.snapshot) name c.in_ok-snapshot.ensures.gives in
    let gave = is_err c.from_residual-in_err-shared.result (Refused Memory) c.from_residual-in_err-shared.ensures.1 in
    let none : receipts_at c.from_residual-in_err-shared.result ≡ 0 = ap receipts_at gave in
    let refuses : Refuses opening seen s Memory = has_place opening s.text c.in_ok-snapshot.snapshot.place there.place in
    record {
      result = subst (λ (x : AtResult). IsResultAt opening first seen s c.args.version x) (sym gave) refuses;
      begins = c.snapshot.ensures.begins;
      counted = omega (arith, none, c.snapshot.ensures.same);
    }

pub returns-in_err-proposal : goal.returns-in_err-proposal
returns-in_err-proposal g c =
    let opening = g.L.Naming.opening in
    let first = c.args.seat.now.seen in
    let seen = c.snapshot.new.self.seen in
    let s = arc_value c.args.statement.now in
    let name = c.text.ensures ∙ ap (λ (t : Statement). t.text) c.deref.ensures in
    let there = subst (λ (n : List ℕ). IsSeen opening seen n c.in_ok-snapshot.snapshot) name c.in_ok-snapshot.ensures.gives in
    let fault = c.in_err-proposal.field-0.0 in
    let gave = is_err c.from_residual-in_err-proposal.result (Refused (of_statement fault)) c.from_residual-in_err-proposal.ensures.1 in
    let none : receipts_at c.from_residual-in_err-proposal.result ≡ 0 = ap receipts_at gave in
    let given = subst (λ (t : Statement). GivesProposal (Err fault) t c.in_ok-snapshot.snapshot) c.in_ok-shared.ensures c.in_err-proposal.ensures in
    let refuses = performed_refuses fault opening seen s c.in_ok-snapshot.snapshot there given in
    record {
      result = subst (λ (x : AtResult). IsResultAt opening first seen s c.args.version x) (sym gave) refuses;
      begins = c.snapshot.ensures.begins;
      counted = omega (arith, none, c.snapshot.ensures.same);
    }

pub commit-requires : goal.commit-requires
commit-requires g c =
    let opening = g.L.Naming.opening in
    let first = c.args.seat.now.seen in
    let seen = c.snapshot.new.self.seen in
    let s = arc_value c.args.statement.now in
    let name = c.text.ensures ∙ ap (λ (t : Statement). t.text) c.deref.ensures in
    let made = proposed_on opening seen s (arc_value c.in_ok-shared.shared) c.text.result.now c.in_ok-snapshot.snapshot c.in_ok-proposal.proposal name c.in_ok-shared.ensures
    c.in_ok-snapshot.ensures.gives c.in_ok-proposal.ensures in
    record { view = made.prefix }

pub returns-in-Ok : goal.returns-in-Ok
returns-in-Ok g c =
    let opening = g.L.Naming.opening in
    let first = c.args.seat.now.seen in
    let seen = c.snapshot.new.self.seen in
    let s = arc_value c.args.statement.now in
    let name = c.text.ensures ∙ ap (λ (t : Statement). t.text) c.deref.ensures in
    let after = c.commit.new.seat.seen in
    let made = proposed_on opening seen s (arc_value c.in_ok-shared.shared) c.text.result.now c.in_ok-snapshot.snapshot c.in_ok-proposal.proposal name c.in_ok-shared.ensures
    c.in_ok-snapshot.ensures.gives c.in_ok-proposal.ensures in
    let level = ap (λ (x : Snapshot). x.version) (sym c.snapshot-2.view_is) in
    let more = prefix_length first seen c.snapshot.ensures.begins in
    let later : length first ≤ c.in-Ok.receipt.index = omega (arith, more, c.in-Ok.ensures.later) in
    record {
      result = committed opening first seen after s c.args.version c.in_ok-proposal.proposal c.in-Ok.receipt (c.in_ok-proposal.ensures.version ∙ level ∙ c.if-is_other.false) made later c.in-Ok.ensures.receipt c.in-Ok.ensures.in_view;
      begins = prefix_trans first seen after c.snapshot.ensures.begins c.commit.ensures.begins;
      counted = omega (arith, c.snapshot.ensures.same, c.in-Ok.ensures.counted);
    }

pub returns : goal.returns
returns g c =
    let opening = g.L.Naming.opening in
    let first = c.args.seat.now.seen in
    let seen = c.snapshot.new.self.seen in
    let s = arc_value c.args.statement.now in
    let name = c.text.ensures ∙ ap (λ (t : Statement). t.text) c.deref.ensures in
    let after = c.commit.new.seat.seen in
    let made = proposed_on opening seen s (arc_value c.in_ok-shared.shared) c.text.result.now c.in_ok-snapshot.snapshot c.in_ok-proposal.proposal name c.in_ok-shared.ensures
    c.in_ok-snapshot.ensures.gives c.in_ok-proposal.ensures in
    let level = ap (λ (x : Snapshot). x.version) (sym c.snapshot-2.view_is) in
    let refuses =
    committed_refuses c.in-Err.fault opening first seen after s c.args.version c.in_ok-proposal.proposal (c.in_ok-proposal.ensures.version ∙ level ∙ c.if-is_other.false) made c.commit.ensures.begins
    c.in-Err.ensures.cause in
    record {
      result = subst (λ (x : AtFault). IsResultAt opening first after s c.args.version (Err x)) (sym c.at_commit.ensures) refuses;
      begins = prefix_trans first seen after c.snapshot.ensures.begins c.commit.ensures.begins;
      counted = omega (arith, c.snapshot.ensures.same, c.in-Err.ensures.same);
    }
