-- What a run has done, as the program has it, by value.
use Rattle.std.specs.Prelude.{◌≡◌, ◌≤◌, ◌+◌, ℕ, length}
use Rattle.sno_book.specs.Books.{Book, view_of}
use Rattle.sno_document.specs.Document.{room}
use Rattle.sno_listing.specs.History.{History, history_of}
use Rattle.sno_rewrite.specs.declared.serial.BookWithRefusals.{BookWithRefusals}

abbrev pub history_seen : BookWithRefusals → History
history_seen p = history_of (view_of p.book) p.refused.items

-- there is room for at least `most` entries more
pub record HasRoom (book : Book) (most : ℕ) : Type 0 where
  pub opening : book.opening.room ≡ room
  pub few : length book.journal + most ≤ room
