-- What is held is the book that was opened.
use Rattle.sno_c.proofs.OpenedBooks.{opened}
use Rattle.sno_c.proofs.books.opened_book.Goals as goal

pub returns-in-Ok-clause-opened : goal.returns-in-Ok-clause-opened
returns-in-Ok-clause-opened c = opened c.args.mode c.args.document.now c.in-Ok.book c.held_book.result c.in-Ok.ensures.opened c.held_book.ensures.held
