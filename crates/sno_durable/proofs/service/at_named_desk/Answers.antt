-- The only seat has worked, and the close returns what it left.
use Rattle.std.proofs.Common.{◌≡◌, [], List, length, drop, ap, subst, sym, ◌∙◌, arith}
use Rattle.std.specs.List.{All}
use Rattle.std.specs.Prelude.{IfErr, sum_by}
use mathlib.Core.List.{IsPrefix as Begins}
use Rattle.sno_book.specs.Openings.{Opening}
use Rattle.sno_desk.specs.Turns.{position}
use Rattle.sno_desk.specs.declared.seats.Seat.{Seat}
use Rattle.sno_store.specs.Shown.{lines_in}
use Rattle.sno_durable.specs.Replayed.{HasStopped}
use Rattle.sno_durable.specs.Stored.{HasGoneOn, IsOnly, later_lines}
use Rattle.sno_durable.proofs.Storing.{gone_closed, ok_map, restored}
use Rattle.sno_durable.proofs.service.at_named_desk.Goals as goal

pub returns-in-Ok-close-clause-gone : goal.returns-in-Ok-close-clause-gone
returns-in-Ok-close-clause-gone g c =
    let made = c.in-Ok.made.1 in
    let journal = c.in-Ok-close.book.journal in
    let reading = c.args.keeper.now.reading in
    let lines = later_lines (lines_in c.args.earlier.lines) in
    let store = c.args.keeper.now.shelf.store in
    let stored = c.at_only_seat-ended.new.keeper.shelf.store in
    let old : List (Seat g.row.L.Denot) = c.as_mut_slice.result.now in
    let new : List (Seat g.row.L.Denot) = c.at_only_seat-ended.new.seats in
    let same : old ≡ made.items = c.as_mut_slice.ensures.value in
    let many : length old ≡ 1 = ap (λ (l : List (Seat g.row.L.Denot)). length l) same ∙ c.in-Ok.ensures.count in
    let as_many : length new ≡ 1 = omega (arith, many) in
    let whole = restored made.len new (drop (length new) made.items) (omega (arith, many, as_many, c.in-Ok.ensures.count)) in
    let counted = c.in-Ok-close.ensures.counted ∙ ap (λ (l : List (Seat g.row.L.Denot)). sum_by (λ s. s.accepted) l) whole in
    let seen = subst (λ (l : List (Seat g.row.L.Denot)). All (λ s. Begins s.seen journal) l) whole c.in-Ok-close.ensures.seen in
    ok_map c.at_only_seat-ended.result (λ e. IsOnly (λ (s : Seat g.row.L.Denot). HasGoneOn reading g.L.Naming.opening e.first lines (position s.accepted s.seen) store stored) new)
    (λ e. HasGoneOn reading c.args.book.opening e.first lines (position (length journal) journal) store stored)
    (λ e only. gone_closed (λ (s : Seat g.row.L.Denot). s.accepted) (λ s. s.seen) reading g.L.Naming.opening c.args.book.opening e.first lines new journal store stored c.requires.opening only counted seen)
    c.at_only_seat-ended.ensures.gone

pub returns-in-Ok-close-clause-cause : goal.returns-in-Ok-close-clause-cause
returns-in-Ok-close-clause-cause g c =
    subst (λ (o : Opening). IfErr c.at_only_seat-ended.result (HasStopped c.args.keeper.now.reading o (later_lines (lines_in c.args.earlier.lines)))) (sym c.requires.opening)
    c.at_only_seat-ended.ensures.cause
