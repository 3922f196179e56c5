-- The new ledger and histories, and the book that was made.
use Rattle.bench_desk.proofs.timing.time_desk.Given as goal

abbrev pub ghosts-time_at-L-Ledger : goal.ghosts-time_at-L-Ledger
ghosts-time_at-L-Ledger g a = record { name = a.blank.ledger.name; parts = a.blank.ledger.parts }

abbrev pub ghosts-time_at-L-Naming : goal.ghosts-time_at-L-Naming
ghosts-time_at-L-Naming g a = record { book = a.blank.history.history; tries = a.blank.attempts.history; opening = a.book.opening }
