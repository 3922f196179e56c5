-- The seats so far have seen no more than is shown.
use Rattle.std.proofs.Common.{◌<◌, ℕ, slice_index_or}
use mathlib.Core.List.{IsPrefix as Begins}
use Rattle.sno_desk.specs.declared.seats.Seat.{Seat}
use Rattle.sno_desk.proofs.seats.are_within.Given as goal

abbrev pub invariant-loop-seat : goal.invariant-loop-seat
invariant-loop-seat g l = (k : ℕ) (d : Seat g.row.L.Denot) → k < l.seat-index → Begins (slice_index_or l.seats k d).seen l.table
