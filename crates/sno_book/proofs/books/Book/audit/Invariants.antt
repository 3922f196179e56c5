use Rattle.std.proofs.Common.{take}
use Rattle.std.specs.List.{All}
use Rattle.sno_book.specs.Audits.{Agrees}
use Rattle.sno_book.proofs.books.Book.audit.Given as goal

-- the receipts that were looked at agree
abbrev pub invariant-loop-place : goal.invariant-loop-place
invariant-loop-place l = All (Agrees l.journal) (take l.place l.receipts)
