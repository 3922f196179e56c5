-- The name at a place.
use Rattle.std.proofs.Common.{sym}
use Rattle.std.specs.Arc.{arc_value}
use Rattle.sno_book.proofs.Named.{decides_row}
use Rattle.sno_book.proofs.openings.Opening.has_at.Goals as goal

pub returns-in-Some : goal.returns-in-Some
returns-in-Some c =
    decides_row c.args.self.now c.args.place (c.in-Some.there.now, arc_value c.in-Some.field-0-1.now) c.args.name.now c.eq.result c.len.ensures.opening (sym c.in-Some.ensures) c.eq.ensures
