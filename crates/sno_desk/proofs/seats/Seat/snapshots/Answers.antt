-- There is a snapshot of each name.
use Rattle.std.proofs.Common.{◌≡◌, ◌≢◌, None, map, sym, subst}
use Rattle.sno_book.specs.Openings.{Opening}
use Rattle.sno_published.specs.Snapshots.{snapshots_of}
use Rattle.sno_desk.specs.Seen.{places_of}
use Rattle.sno_desk.proofs.Viewings.{all_there}
use Rattle.sno_desk.proofs.seats.Seat.snapshots.Goals as goal

pub returns-in_default-clause-no_text : goal.returns-in_default-clause-no_text
returns-in_default-clause-no_text g c =
    let none : None ≡ snapshots_of g.L.Naming.opening c.snapshots.new.self.seen (map (λ n. n.now) c.args.names.now) = rw c.in_default.is at c.in_ok-snapshots.ensures.found in
    let there : places_of g.L.Naming.opening (map (λ n. n.now) c.args.names.now) ≢ None =
    subst (λ (o : Opening). places_of o (map (λ n. n.now) c.args.names.now) ≢ None) c.opening.ensures (c.has_all.ensures.0 c.if-not-has_all.false) in
    absurd (all_there g.L.Naming.opening c.snapshots.new.self.seen (map (λ n. n.now) c.args.names.now) there (sym none))

pub returns-in_default-clause-cause : goal.returns-in_default-clause-cause
returns-in_default-clause-cause g c =
    let none : None ≡ snapshots_of g.L.Naming.opening c.snapshots.new.self.seen (map (λ n. n.now) c.args.names.now) = rw c.in_default.is at c.in_ok-snapshots.ensures.found in
    let there : places_of g.L.Naming.opening (map (λ n. n.now) c.args.names.now) ≢ None =
    subst (λ (o : Opening). places_of o (map (λ n. n.now) c.args.names.now) ≢ None) c.opening.ensures (c.has_all.ensures.0 c.if-not-has_all.false) in
    absurd (all_there g.L.Naming.opening c.snapshots.new.self.seen (map (λ n. n.now) c.args.names.now) there (sym none))
