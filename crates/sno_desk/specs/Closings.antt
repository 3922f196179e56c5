-- What a close returns.
use Rattle.std.specs.Prelude.{◌≡◌, ◌≢◌, Result, Ok, Err}
use Rattle.sno_book.specs.Books.{Book}
use Rattle.sno_book.specs.Openings.{Opening}
use Rattle.sno_desk.specs.declared.faults.CloseFault.{CloseFault}
use Rattle.sno_desk.specs.declared.faults.CloseFault.TheVariants as close

-- the book, with a refusal or without
abbrev pub book_in : Result Book (CloseFault × Book) → Book
book_in (Ok book) = book
book_in (Err refused) = refused.1

-- why a close is refused: the book's opening is not the desk's; or it is, but its journal does not begin with what each
-- of the seats has seen
abbrev pub IsCloseCause : CloseFault → Book → Opening → Type 0 → Type 0
IsCloseCause close.Opening book opening has_all = book.opening ≢ opening
IsCloseCause close.Journal book opening has_all = (book.opening ≡ opening) × (has_all → ⊥)
