-- The text at the place of a name, as the viewer has found it.
use Rattle.std.proofs.Common.{◌≡◌, Some, None, sym, subst, ◌∙◌}
use Rattle.std.specs.Arc.{arc_value}
use Rattle.sno_book.specs.Openings.{Opening, IsOpening, place_in}
use Rattle.sno_published.specs.Tables.{text_after, text_at}
use Rattle.sno_published.proofs.Taken.{stands_after}
use Rattle.sno_desk.proofs.Viewings.{stays_there}
use Rattle.sno_desk.proofs.seats.Seat.snapshot.Goals as goal

pub returns-in_default-2-clause-gives : goal.returns-in_default-2-clause-gives
returns-in_default-2-clause-gives g c =
    let placed : place_in g.L.Naming.opening c.args.name.now ≡ Some c.in-Some.place = sym c.place.ensures ∙ c.in-Some.is in
    let none : None ≡ text_after g.L.Naming.opening c.text.new.self.seen c.in-Some.place = rw c.in_default-2.is at c.in_ok-text.ensures.found in
    absurd (stays_there g.L.Naming.opening c.text.new.self.seen c.args.name.now c.in-Some.place placed (sym none))

pub returns-in_default-2-clause-cause : goal.returns-in_default-2-clause-cause
returns-in_default-2-clause-cause g c =
    let placed : place_in g.L.Naming.opening c.args.name.now ≡ Some c.in-Some.place = sym c.place.ensures ∙ c.in-Some.is in
    let none : None ≡ text_after g.L.Naming.opening c.text.new.self.seen c.in-Some.place = rw c.in_default-2.is at c.in_ok-text.ensures.found in
    absurd (stays_there g.L.Naming.opening c.text.new.self.seen c.args.name.now c.in-Some.place placed (sym none))

pub new-requires : goal.new-requires
new-requires g c =
    let opens : IsOpening g.L.Naming.opening = subst (λ (o : Opening). IsOpening o) c.opening.ensures c.len.ensures.opening in
    let found : Some (text_at g.L.Naming.opening c.in-Some.place (arc_value c.in-Some-2.text) c.in-Some-2.version) ≡ text_after g.L.Naming.opening c.text.new.self.seen c.in-Some.place =
    rw c.in-Some-2.is at c.in_ok-text.ensures.found in
    stands_after g.L.Naming.opening c.of.result c.text.new.self.seen c.in-Some.place c.in-Some-2.version (arc_value c.in-Some-2.text) c.of.ensures opens c.seen.ensures.legal c.seen.ensures.within found
