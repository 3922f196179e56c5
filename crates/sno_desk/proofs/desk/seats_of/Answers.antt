-- One more seat has been made.
use Rattle.std.proofs.Common.{◌≡◌, ◌+◌, [], length, ◌∙◌, length-append, arith}
use Rattle.std.proofs.lemmas.List.Elements.{All-push}
use Rattle.sno_desk.proofs.desk.seats_of.Goals as goal

pub loop-seat-preserved : goal.loop-seat-preserved
loop-seat-preserved g c =
    let made = c.loop-seat.made.items in
    let rest : c.seat_of.new.rest.parts + 1 ≡ c.loop-seat.rest.parts = c.in_ok-seat.ensures.rest.0 in
    let before : c.loop-seat.rest.parts + c.loop-seat._seat ≡ c.args.seats = c.loop-seat.invariant.0 in
    let many : length made ≡ c.loop-seat._seat = c.loop-seat.invariant.2 in
    let longer : length c.push.new.self.items ≡ length made + 1 = rw c.in-Ok.ensures.items (length-append made _) in
    let new : (c.in_ok-seat.seat.accepted ≡ 0) × (c.in_ok-seat.seat.seen ≡ []) = (c.in_ok-seat.ensures.none.0, c.in_ok-seat.ensures.none.1 ∙ c.requires.first) in (
      omega (arith, rest, before),
      c.in_ok-seat.ensures.rest.1,
      omega (arith, longer, many),
      rw c.in-Ok.ensures.items (All-push (λ s. (s.accepted ≡ 0) × (s.seen ≡ [])) made c.in_ok-seat.seat c.loop-seat.invariant.3 new),
    )
