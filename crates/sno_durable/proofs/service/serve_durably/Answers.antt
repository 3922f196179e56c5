-- What the service leaves, from its start to its end.
use Rattle.std.proofs.Common.{ap, subst, sym, ◌∙◌}
use Rattle.sno_book.specs.declared.books.Book.{Book}
use Rattle.sno_store.specs.Shown.{lines_in}
use Rattle.sno_durable.specs.Origins.{Fits}
use Rattle.sno_durable.specs.declared.records.Origin.{Origin}
use Rattle.sno_durable.proofs.Replaying.{cause_left}
use Rattle.sno_durable.proofs.Storing.{all_left}
use Rattle.sno_durable.proofs.service.serve_durably.Goals as goal

pub returns-clause-kept : goal.returns-clause-kept
returns-clause-kept g c =
    let begun = c.in_ok-store.field-0 in
    let kept = c.left_by.result in
    let book = c.left_by.ensures.book in
    let rest = c.left_by.ensures.rest in
    all_left (λ e. e.first) c.in_ok-book.ended kept.ended begun.origin kept.origin begun.reading begun.book.opening kept.book.opening c.in_ok-book.book.journal kept.book.journal (lines_in c.args.opened.1) (lines_in begun.lines)
    c.args.opened.0 begun.store c.at_named_desk.new.keeper.shelf.store kept.store rest.2 rest.1 (ap (λ b. b.opening) book ∙ c.in_ok-book.ensures.opening) (ap (λ b. b.journal) book)
    rest.0 (ap lines_in c.in_ok-store.ensures.lines) c.in_ok-store.ensures.made_of c.in_ok-store.ensures.meant c.in_ok-store.ensures.begun c.in_ok-book.ensures.gone

pub returns-clause-given : goal.returns-clause-given
returns-clause-given g c = subst (λ (o : Origin). Fits c.args.given o) (sym c.left_by.ensures.rest.1) c.in_ok-store.ensures.given

pub returns-clause-cause : goal.returns-clause-cause
returns-clause-cause g c =
    let begun = c.in_ok-store.field-0 in
    let kept = c.left_by.result in
    let book = c.left_by.ensures.book in
    let rest = c.left_by.ensures.rest in
    cause_left c.in_ok-book.ended kept.ended begun.origin kept.origin begun.reading begun.book.opening kept.book.opening (lines_in c.args.opened.1) (lines_in begun.lines) rest.2 rest.1
    (ap (λ b. b.opening) book ∙ c.in_ok-book.ensures.opening) (ap lines_in c.in_ok-store.ensures.lines) c.in_ok-store.ensures.meant c.in_ok-book.ensures.cause
