-- The new ledger and histories, and the book that was passed.
use Rattle.test_desk.proofs.beside.share.Given as goal

abbrev pub ghosts-read_beside-L-Ledger : goal.ghosts-read_beside-L-Ledger
ghosts-read_beside-L-Ledger g a = record { name = a.blank.ledger.name; parts = a.blank.ledger.parts }

abbrev pub ghosts-read_beside-L-Naming : goal.ghosts-read_beside-L-Naming
ghosts-read_beside-L-Naming g a = record { book = a.blank.history.history; tries = a.blank.attempts.history; opening = a.book.opening }
