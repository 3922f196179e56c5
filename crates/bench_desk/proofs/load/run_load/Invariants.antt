-- The new ledger and histories, and the book that was made.
use Rattle.bench_desk.proofs.load.run_load.Given as goal

abbrev pub ghosts-run-L-Ledger : goal.ghosts-run-L-Ledger
ghosts-run-L-Ledger g a = record { name = a.blank.ledger.name; parts = a.blank.ledger.parts }

abbrev pub ghosts-run-L-Naming : goal.ghosts-run-L-Naming
ghosts-run-L-Naming g a = record { book = a.blank.history.history; tries = a.blank.attempts.history; opening = a.book.opening }
