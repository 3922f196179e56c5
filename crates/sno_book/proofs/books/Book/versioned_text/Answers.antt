-- The text of a name.
use Rattle.std.proofs.Common.{◌≡◌, ap, ◌∙◌, sym, Some}
use Rattle.sno_pattern.specs.NameList.{place_of}
use Rattle.sno_book.specs.Openings.{Opening, names_in, place_in}
use Rattle.sno_book.specs.contracts.books.Book.{the_view}
use Rattle.sno_book.proofs.BookLaws.{place_inside}
use Rattle.sno_book.proofs.books.Book.versioned_text.Goals as goal

placed : (c : goal.After-deref-2) → place_in (the_view c.self.inside).opening c.args.name.now ≡ Some c.in_ok-place.place
placed c = sym (c.place.ensures ∙ ap (λ (o : Opening). place_of (names_in o.texts) c.args.name.now) c.deref.ensures) ∙ c.in_ok-place.was

pub text_at-requires : goal.text_at-requires
text_at-requires c =
    rw c.deref-2.ensures.value (place_inside (the_view c.self.inside) c.self.inside.versioned_texts.items c.args.name.now c.in_ok-place.place c.self.invariant (placed c))
