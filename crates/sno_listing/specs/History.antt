-- What a run has done, as a listing shows it.
use Rattle.std.specs.Prelude.{List}
use Rattle.sno_book.specs.States.{State}
use Rattle.sno_book.specs.Entries.{Entry}
use Rattle.sno_book.specs.Views.{View, state_of}
use Rattle.sno_listing.specs.declared.refusals.Refusal.{Refusal}

-- the final texts, the accepted statements and the refused ones, each in their order
pub record History : Type 0 where
  pub state : State
  pub journal : List Entry
  pub refused : List Refusal

-- the texts of a book, its journal, and the refused statements
abbrev pub history_of : View → List Refusal → History
history_of v refused = record { state = state_of v; journal = v.journal; refused = refused }
