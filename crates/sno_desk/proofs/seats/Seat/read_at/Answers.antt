-- There is a text at each place of the opening.
use Rattle.std.proofs.Common.{◌<◌, ◌∙◌, ap, length, arith}
use Rattle.sno_book.specs.Openings.{Opening}
use Rattle.sno_desk.proofs.Viewings.{held_there, lent_none}
use Rattle.sno_desk.proofs.seats.Seat.read_at.Goals as goal

pub returns-in_default-found-clause-refused : goal.returns-in_default-found-clause-refused
returns-in_default-found-clause-refused g c =
    let many = c.len.ensures.count ∙ ap (λ (o : Opening). length o.texts) c.opening.ensures in
    let within : c.args.place < length g.L.Naming.opening.texts = omega (arith, many, c.if-place-len.false) in
    absurd (held_there g.L.Naming.opening c.read.new.self.seen c.args.place within (lent_none _ _ _ _ _ _ c.in_default-found.is c.in-Ok.ensures.lent))

pub returns-in_default-found-clause-no_text : goal.returns-in_default-found-clause-no_text
returns-in_default-found-clause-no_text g c =
    let many = c.len.ensures.count ∙ ap (λ (o : Opening). length o.texts) c.opening.ensures in
    let within : c.args.place < length g.L.Naming.opening.texts = omega (arith, many, c.if-place-len.false) in
    absurd (held_there g.L.Naming.opening c.read.new.self.seen c.args.place within (lent_none _ _ _ _ _ _ c.in_default-found.is c.in-Ok.ensures.lent))
