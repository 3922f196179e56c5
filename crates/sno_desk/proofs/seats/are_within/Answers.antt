-- A seat that has seen more than is shown.
use Rattle.std.proofs.Common.{arith, ◌≡◌, ◌<◌, ◌⊎◌, ◌∙◌, ap, sym, subst, inl, inr, slice_index_or}
use Rattle.std.proofs.lemmas.Bool.{cases_order}
use Rattle.std.proofs.lemmas.List.{get_or_default}
use mathlib.Core.List.{IsPrefix as Begins}
use Rattle.sno_desk.specs.declared.seats.Seat.{Seat}
use Rattle.sno_desk.proofs.seats.are_within.Goals as goal

pub returns-then-not-is_within : goal.returns-then-not-is_within
returns-then-not-is_within g c = (
  (λ wrong. absurd cc),
  λ all. sym c.if-not-is_within.true ∙ c.is_within.ensures.1 (subst (λ (s : Seat g.row.L.Denot). Begins s.seen c.args.table.now) (sym c.seat-item.is) (all c.loop-seat.seat-index c.seat-item.result c.loop-seat-test.true)),
)

pub loop-seat-preserved : goal.loop-seat-preserved
loop-seat-preserved g c k d less = pick (cases_order k c.loop-seat.seat-index)
  where
    item : Seat g.row.L.Denot
    item = c.seat-item.result

    within : Begins item.seen c.args.table.now
    within = c.is_within.ensures.0 c.if-not-is_within.false

    pick : (k ≡ c.loop-seat.seat-index) ⊎ ((k < c.loop-seat.seat-index) ⊎ (c.loop-seat.seat-index < k)) → Begins (slice_index_or c.args.seats.now k d).seen c.args.table.now
    pick (inl here) = subst (λ (s : Seat g.row.L.Denot). Begins s.seen c.args.table.now)
        (c.seat-item.is ∙ get_or_default c.args.seats.now c.loop-seat.seat-index item d c.loop-seat-test.true ∙ ap (λ i. slice_index_or c.args.seats.now i d) (sym here)) within
    pick (inr (inl before)) = c.loop-seat.invariant k d before
    pick (inr (inr after)) = absurd (omega (arith, less, after))
