-- The new ledger and histories, and the book that was passed.
use Rattle.test_allocations.proofs.desks.open.Given as goal

abbrev pub ghosts-open_and_close-L-Ledger : goal.ghosts-open_and_close-L-Ledger
ghosts-open_and_close-L-Ledger g a = record { name = a.blank.ledger.name; parts = a.blank.ledger.parts }

abbrev pub ghosts-open_and_close-L-Naming : goal.ghosts-open_and_close-L-Naming
ghosts-open_and_close-L-Naming g a = record { book = a.blank.history.history; tries = a.blank.attempts.history; opening = a.book.opening }
