-- A current text of a book, with the book's view.
use Rattle.std.specs.Arc.{arc_value}
use Rattle.sno_book.proofs.Fitting.{stands_in}
use Rattle.sno_book.proofs.books.Book.snapshot.Goals as goal

pub new-requires : goal.new-requires
new-requires c =
    stands_in c.args.self.now c.of.result c.args.name.now (arc_value c.in-Some.versioned.now.text) (arc_value c.in-Ok.text) c.in-Some.place c.in-Some.versioned.now.version c.of.ensures
    c.journal.ensures.valid c.in-Ok.ensures c.in-Some.ensures.found.1
