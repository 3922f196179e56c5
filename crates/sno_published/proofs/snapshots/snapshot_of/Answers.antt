-- The text at the place of the name, as the table's entries leave it.
use Rattle.std.proofs.Common.{◌≡◌, Some, subst}
use Rattle.std.specs.Arc.{arc_value}
use Rattle.sno_book.specs.Openings.{Opening, IsOpening}
use Rattle.sno_published.specs.Tables.{text_after, text_at}
use Rattle.sno_published.proofs.Taken.{stands_after}
use Rattle.sno_published.proofs.snapshots.snapshot_of.Goals as goal

pub new-requires : goal.new-requires
new-requires g c =
    let opens : IsOpening g.L.Naming.opening = subst (λ (o : Opening). IsOpening o) c.opening-2.ensures (subst (λ (o : Opening). IsOpening o) c.deref-2.ensures c.len.ensures.opening) in
    let found : Some (text_at g.L.Naming.opening c.in-Some.place (arc_value c.in_ok-text.text) c.in-Some-text.version) ≡ text_after g.L.Naming.opening c.args.table.now c.in-Some.place =
    rw c.in_ok-text.ensures (rw c.in-Some-text.is at c.text.ensures) in
    stands_after g.L.Naming.opening c.of.result c.args.table.now c.in-Some.place c.in-Some-text.version (arc_value c.in_ok-text.text) c.of.ensures opens c.front.ensures.legal c.front.ensures.within found
