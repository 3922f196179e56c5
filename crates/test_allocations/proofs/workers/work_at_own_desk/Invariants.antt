-- The new ledger and histories, and the book that was passed.
use Rattle.test_allocations.proofs.workers.work_at_own_desk.Given as goal

abbrev pub ghosts-work-L-Ledger : goal.ghosts-work-L-Ledger
ghosts-work-L-Ledger g a = record { name = a.blank.ledger.name; parts = a.blank.ledger.parts }

abbrev pub ghosts-work-L-Naming : goal.ghosts-work-L-Naming
ghosts-work-L-Naming g a = record { book = a.blank.history.history; tries = a.blank.attempts.history; opening = a.book.opening }
