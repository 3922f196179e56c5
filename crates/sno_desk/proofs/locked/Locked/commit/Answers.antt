-- What the book refuses, and what the publish returns.
use Rattle.std.proofs.Common.{◌≡◌, ◌≤◌, List, length, ap, sym, subst, ◌∙◌, arith}
use Rattle.sno_book.specs.Books.{view_of}
use Rattle.sno_book.specs.Entries.{Entry}
use Rattle.sno_published.proofs.Prefixes.{prefix_length}
use Rattle.sno_desk.specs.declared.faults.CommitFault.{CommitFault}
use Rattle.sno_desk.specs.Receipts.{IsCause, NamesVersion}
use Rattle.sno_desk.specs.Seen.{view_after}
use Rattle.sno_desk.specs.Turns.{position}
use Rattle.sno_desk.proofs.Causes.{cause, committed_since, named, returned_since}
use Rattle.sno_desk.proofs.locked.Locked.commit.Goals as goal

pub returns-in-Err-clause-refused : goal.returns-in-Err-clause-refused
returns-in-Err-clause-refused g c =
    let book = c.self.inside.book in
    let seen = c.audit.new.self.seen in
    let shown : c.self.inside.screen.shown ≡ book.journal = c.self.invariant.1 in
    let level : seen ≡ c.self.inside.screen.shown = c.audit.ensures.seen ∙ c.if-not-see_all.ensures.level ∙ c.table.ensures in
    record {
      back = c.in-Err.ensures.refused.handed_back;
      cause = subst (λ (e : CommitFault). IsCause e (view_after g.L.Naming.opening seen) c.args.proposal) (sym c.from.ensures)
          (cause (view_of book) (view_of c.prepare.new.self) c.args.proposal c.in-Err.proposal c.in-Err.fault g.L.Naming.opening seen c.in-Err.ensures.refused c.self.invariant.0 (sym (level ∙ shown)));
      version = subst (λ (e : CommitFault). NamesVersion g.L.Ledger.parts c.args.seat.now.accepted e) (sym c.from.ensures)
          (named (view_of book) (view_of c.prepare.new.self) c.args.proposal c.in-Err.proposal c.in-Err.fault g.L.Ledger.parts c.args.seat.now.accepted c.self.inside.total.total
          c.in-Err.ensures.refused c.journal.ensures.valid c.versions_count_entries.ensures (λ one. sym c.see_all.ensures.accepted ∙ c.audit.ensures.alone one) c.self.invariant.2);
      same = c.audit.ensures.accepted ∙ c.see_all.ensures.accepted;
    }

pub returns-clause-committed : goal.returns-clause-committed
returns-clause-committed g c =
    let first = c.args.seat.now in
    let before = c.audit.new.self in
    let after = c.publish.new.seat in
    let begun : length first.seen ≤ length c.see_all.new.self.seen = prefix_length first.seen c.see_all.new.self.seen c.see_all.ensures.begins in
    let same : length before.seen ≡ length c.see_all.new.self.seen = ap (λ (l : List Entry). length l) c.audit.ensures.seen in
    committed_since g.L.Naming.opening g.L.Ledger.parts (position first.accepted first.seen) (position before.accepted before.seen) (position after.accepted after.seen)
    c.args.proposal c.in-Ok.ready c.publish.result (c.audit.ensures.accepted ∙ c.see_all.ensures.accepted) (omega (arith, begun, same)) c.in-Ok.ensures.ready.holds
    c.publish.ensures.committed

pub returns-clause-refused : goal.returns-clause-refused
returns-clause-refused g c =
    let first = c.args.seat.now in
    let book = c.self.inside.book in
    let before = c.audit.new.self in
    let after = c.publish.new.seat in
    let shown : c.self.inside.screen.shown ≡ book.journal = c.self.invariant.1 in
    let level : before.seen ≡ c.self.inside.screen.shown = c.audit.ensures.seen ∙ c.if-not-see_all.ensures.level ∙ c.table.ensures in
    returned_since g.L.Naming.opening g.L.Ledger.parts (position first.accepted first.seen) (position before.accepted before.seen) (position after.accepted after.seen)
    book c.args.proposal c.in-Ok.ready c.publish.result (c.audit.ensures.accepted ∙ c.see_all.ensures.accepted) c.self.invariant.0 (sym (level ∙ shown)) c.in-Ok.ensures.ready.free
    c.in-Ok.ensures.ready.holds c.publish.ensures.back c.publish.ensures.same c.publish.ensures.seen
