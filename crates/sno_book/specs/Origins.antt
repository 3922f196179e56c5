-- What a snapshot and a proposal keep of the view from which they come.
use Rattle.std.specs.Prelude.{◌≡◌, ℕ, List, [], ◌∷◌, Some, Ok, slice_get}
use Rattle.sno_statement.specs.Statement.{Statement}
use Rattle.sno_statement.specs.Perform.{Outcome, perform}
use Rattle.sno_book.specs.Views.{View, IsValid, state_of}
use Rattle.sno_book.specs.Books.{Book, view_of}

-- a view as a book that keeps no memory
abbrev pub book_of : View → Book
book_of v = record { opening = v.opening; journal = v.journal; spare = 0 }

-- the view of the first of these books
abbrev pub first_view : List Book → View
first_view [] = record { opening = record { texts = []; room = 0 }; journal = [] }
first_view (b ∷ books) = view_of b

-- the view is valid, and after it the text at this place has this version and these characters
pub record HoldsText (v : View) (place version : ℕ) (text : List ℕ) : Type 0 where
  pub valid : IsValid v
  pub name : List ℕ
  pub there : slice_get (state_of v) place ≡ Some (record { name = name; text = text; version = version })

-- the outcome is what the statement does to the text at this place after the view
pub record IsPerformed (v : View) (place version : ℕ) (s : Statement) (done : Outcome) : Type 0 where
  pub text : List ℕ
  pub held : HoldsText v place version text
  pub performed : perform s text ≡ Ok done
