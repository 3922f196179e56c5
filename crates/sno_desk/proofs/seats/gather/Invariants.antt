use Rattle.std.proofs.Common.{◌≡◌, length}
use Rattle.std.specs.Prelude.{sum_by}
use Rattle.sno_desk.proofs.seats.gather.Given as goal

-- the shares so far
abbrev pub invariant-loop-seat : goal.invariant-loop-seat
invariant-loop-seat g l = (l.rest.parts ≡ length l.yielded) × (l.rest.amount ≡ sum_by (λ s. s.accepted) l.yielded)
