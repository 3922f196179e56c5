-- What is left when all seats of a desk have worked, each by one call.
use Rattle.std.specs.Prelude.{◌≡◌, ℕ, List, [], length, sum_by}
use Rattle.std.specs.List.{All}
use mathlib.Core.List.{IsPrefix as Begins}
use Rattle.sno_book.specs.Books.{Book, view_of}
use Rattle.sno_book.specs.Entries.{Entry}
use Rattle.sno_book.specs.Views.{IsValid}
use Rattle.sno_desk.specs.Turns.{Position, position}
use Rattle.sno_desk.specs.declared.faults.AtDeskFault.{AtDeskFault}
use Rattle.sno_desk.specs.declared.faults.AtDeskFault.TheVariants as at_desk

-- the calls took their seats from nothing accepted and nothing seen to these positions. The journal begins with what
-- each seat has seen, and has as many entries as they have accepted together
pub record HasWorkedAt (takes : Position → Position → Type 0) (seats : ℕ) (journal : List Entry) : Type 0 where
  pub left : List Position
  pub many : length left ≡ seats
  pub taken : All (λ p. takes (position 0 []) p) left
  pub seen : All (λ p. Begins p.seen journal) left
  pub counted : length journal ≡ sum_by (λ p. p.accepted) left

-- the book comes back as it was if no desk was made, and with a legal journal if the desk couldn't be closed
abbrev pub IsBackWith : AtDeskFault → Book → Book → Type 0
IsBackWith (at_desk.Desk fault) back book = back ≡ book
IsBackWith (at_desk.Close fault) back book = IsValid (view_of back)
