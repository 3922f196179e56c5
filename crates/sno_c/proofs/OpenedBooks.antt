-- A book that was opened is held.
use Rattle.std.proofs.Common.{◌≡◌, List, ℕ, Some, ap, refl}
use Rattle.std.specs.Prelude.{Box, Err, IfOk, None, Ok, Result}
use Rattle.std.specs.Global.{Global}
use Rattle.sno_document.specs.declared.modes.Mode.{Mode}
use Rattle.sno_held_book.specs.Held.{IsOpened}
use Rattle.sno_held_book.specs.declared.held_book.HeldBook.{HeldBook}
use Rattle.sno_c.specs.Books.{HasOpenedBook}
use Rattle.sno_c.specs.declared.held.Held.{Held}
use Rattle.sno_c.specs.declared.held.Held.TheVariants.{Book}

-- .. if there was memory for it, and no line was given to it yet
pub opened : (mode : Mode) (document : List ℕ) (book : HeldBook) (r : Result (Box Held Global) ℕ) → IsOpened mode document book
    → IfOk r (λ b. b.value ≡ Book (record { book = book; reply = None })) → IfOk r (λ b. HasOpenedBook mode document (Some b.value))
opened mode document book (Ok b) was is = record { book = record { book = book; reply = None }; held_is = ap (λ (h : Held). Some h) is; opened = was; fresh = refl }
opened mode document book (Err e) was is = tt
