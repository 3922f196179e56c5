-- The new ledger and histories, and the book that was passed.
use Rattle.test_allocations.proofs.desks.at_own_desk.Given as goal

abbrev pub ghosts-at_seat-L-Ledger : goal.ghosts-at_seat-L-Ledger
ghosts-at_seat-L-Ledger g a = record { name = a.blank.ledger.name; parts = a.blank.ledger.parts }

abbrev pub ghosts-at_seat-L-Naming : goal.ghosts-at_seat-L-Naming
ghosts-at_seat-L-Naming g a = record { book = a.blank.history.history; tries = a.blank.attempts.history; opening = a.book.opening }
