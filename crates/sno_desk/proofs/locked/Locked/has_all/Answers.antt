-- What is shown is the journal.
use Rattle.std.proofs.Common.{List, Decides, ap, subst, ◌∙◌}
use Rattle.std.specs.List.{All}
use mathlib.Core.List.{IsPrefix as Begins}
use Rattle.sno_book.specs.Books.{Book}
use Rattle.sno_book.specs.Entries.{Entry}
use Rattle.sno_desk.specs.declared.seats.Seat.{Seat}
use Rattle.sno_desk.proofs.locked.Locked.has_all.Goals as goal

pub returns : goal.returns
returns g c =
    subst (λ (j : List Entry). Decides c.are_within.result (All (λ (s : Seat g.row.L.Denot). Begins s.seen j) c.args.seats.now))
    (c.table.ensures ∙ c.self.invariant.1 ∙ ap (λ (b : Book). b.journal) c.self.view_is) c.are_within.ensures
