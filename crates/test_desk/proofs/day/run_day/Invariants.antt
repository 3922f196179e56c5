-- The new ledger and histories, and the book that was passed.
use Rattle.test_desk.proofs.day.run_day.Given as goal

abbrev pub ghosts-spend-L-Ledger : goal.ghosts-spend-L-Ledger
ghosts-spend-L-Ledger g a = record { name = a.blank.ledger.name; parts = a.blank.ledger.parts }

abbrev pub ghosts-spend-L-Naming : goal.ghosts-spend-L-Naming
ghosts-spend-L-Naming g a = record { book = a.blank.history.history; tries = a.blank.attempts.history; opening = a.book.opening }
