-- What the seats have seen, in the book that is returned.
use Rattle.std.proofs.Common.{◌≡◌, List, true, false, subst, sym, ◌∙◌}
use Rattle.std.specs.List.{All}
use mathlib.Core.List.{IsPrefix as Begins}
use Rattle.sno_book.specs.Books.{Book}
use Rattle.sno_desk.specs.declared.seats.Seat.{Seat}
use Rattle.sno_desk.proofs.desk.close.Goals as goal

pub returns-then-not-has_all-clause-cause : goal.returns-then-not-has_all-clause-cause
returns-then-not-has_all-clause-cause g c =
    let same : c.deref-2.result.now ≡ c.deref-3.result.now = c.is_same.ensures.0 c.if-not-is_same.false in (
      sym (c.deref-2.ensures ∙ c.opening.ensures) ∙ same ∙ c.deref-3.ensures,
      λ all.
          let kept = subst (λ (b : Book). All (λ (s : Seat g.row.L.Denot). Begins s.seen b.journal) c.args.seats.items) c.into_book-book.ensures.book all in
          let held = subst (λ (l : List (Seat g.row.L.Denot)). All (λ (s : Seat g.row.L.Denot). Begins s.seen c.into_inner-locked.result.journal) l) (sym c.deref.ensures.value) kept in
          let wrong : false ≡ true = sym c.if-not-has_all.true ∙ c.has_all-has_all.ensures.1 held in
          absurd cc,
    )

pub returns-clause-seen : goal.returns-clause-seen
returns-clause-seen g c =
    let held = c.has_all-has_all.ensures.0 c.if-not-has_all.false in
    let kept = subst (λ (l : List (Seat g.row.L.Denot)). All (λ (s : Seat g.row.L.Denot). Begins s.seen c.into_inner-locked.result.journal) l) c.deref.ensures.value held in
    subst (λ (b : Book). All (λ (s : Seat g.row.L.Denot). Begins s.seen b.journal) c.args.seats.items) (sym c.into_book-book.ensures.book) kept
