use Rattle.std.proofs.Common.{◌≡◌, ◌+◌, [], length}
use Rattle.std.specs.List.{All}
use Rattle.sno_desk.proofs.desk.seats_of.Given as goal

abbrev pub invariant-loop-seat : goal.invariant-loop-seat
invariant-loop-seat g l = (l.rest.parts + l._seat ≡ l.seats) × (l.rest.amount ≡ 0) × (length l.made.items ≡ l._seat) × All (λ s. (s.accepted ≡ 0) × (s.seen ≡ [])) l.made.items
