-- All seats have worked, and the close returns what they left.
use Rattle.std.proofs.Common.{◌≡◌, [], List, length, drop, ap, subst, sym, ◌∙◌, arith}
use Rattle.std.specs.List.{All}
use Rattle.std.specs.Prelude.{sum_by}
use mathlib.Core.List.{IsPrefix as Begins}
use Rattle.sno_desk.specs.declared.seats.Seat.{Seat}
use Rattle.sno_desk.proofs.Worked.{restored, worked_at}
use Rattle.sno_desk.proofs.desk_work.at_named_desk.Goals as goal

pub returns-in-Ok-close-clause-worked : goal.returns-in-Ok-close-clause-worked
returns-in-Ok-close-clause-worked g c =
    let made = c.in-Ok.made.1 in
    let journal = c.in-Ok-close.book.journal in
    let old : List (Seat g.row.L.Denot) = c.as_mut_slice.result.now in
    let new : List (Seat g.row.L.Denot) = c.work_each.new.seats in
    let same : old ≡ made.items = c.as_mut_slice.ensures.value in
    let many : length old ≡ c.args.seats = ap (λ (l : List (Seat g.row.L.Denot)). length l) same ∙ c.in-Ok.ensures.count in
    let as_many : length new ≡ c.args.seats = omega (arith, many) in
    let whole = restored made.len new (drop (length new) made.items) (omega (arith, many, as_many, c.in-Ok.ensures.count)) in
    worked_at (λ (s : Seat g.row.L.Denot). s.accepted) (λ s. s.seen) (g.W.DeskWork.takes c.args.work.now) old new journal c.args.seats
    many
    as_many
    (subst (λ (l : List (Seat g.row.L.Denot)). All (λ s. (s.accepted ≡ 0) × (s.seen ≡ [])) l) (sym same) c.in-Ok.ensures.none)
    c.work_each.ensures
    (subst (λ (l : List (Seat g.row.L.Denot)). All (λ s. Begins s.seen journal) l) whole c.in-Ok-close.ensures.seen)
    (c.in-Ok-close.ensures.counted ∙ ap (λ (l : List (Seat g.row.L.Denot)). sum_by (λ s. s.accepted) l) whole)
