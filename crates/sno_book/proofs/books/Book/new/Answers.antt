-- A book without entries.
use Rattle.sno_book.proofs.BookLaws.{keeps_first}
use Rattle.sno_book.proofs.books.Book.new.Goals as goal

pub invariant_of-result : goal.invariant_of-result
invariant_of-result c =
    rw (c.in_ok-new.ensures.ok, c.new-2.ensures.items) (keeps_first c.in_ok-start.start.opening c.in_ok-start.start.versioned_texts.items c.in_ok-start.ensures.opening c.in_ok-start.ensures.first)
