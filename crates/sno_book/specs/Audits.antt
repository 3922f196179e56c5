-- Receipts that agree with a journal.
use Rattle.std.specs.Prelude.{◌≡◌, ℕ, List, take, Some, Result, Ok, Err, slice_get}
use Rattle.std.specs.List.{All}
use Rattle.sno_book.specs.Entries.{Entry}
use Rattle.sno_book.specs.Proposals.{Receipt}

-- the receipt's entry is the journal's entry at the receipt's index
abbrev pub Agrees : List Entry → Receipt → Type 0
Agrees journal receipt = slice_get journal receipt.index ≡ Some receipt.entry

-- the first of the receipts that doesn't agree is at this place
pub record IsFirstAstray (journal : List Entry) (receipts : List Receipt) (place : ℕ) : Type 0 where
  pub receipt : Receipt
  pub there : slice_get receipts place ≡ Some receipt
  pub astray : Agrees journal receipt → ⊥
  pub before : All (Agrees journal) (take place receipts)

abbrev pub Audits : Result (Unit {0}) ℕ → List Entry → List Receipt → Type 0
Audits (Ok _) journal receipts = All (Agrees journal) receipts
Audits (Err place) journal receipts = IsFirstAstray journal receipts place
