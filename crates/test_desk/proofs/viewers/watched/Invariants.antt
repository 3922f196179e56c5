-- The new histories, and the book that was passed.
use Rattle.test_desk.proofs.viewers.watched.Given as goal

abbrev pub ghosts-watch-L-Ledger : goal.ghosts-watch-L-Ledger
ghosts-watch-L-Ledger g a = record { name = 0; parts = 0 }

abbrev pub ghosts-watch-L-Naming : goal.ghosts-watch-L-Naming
ghosts-watch-L-Naming g a = record { book = a.history.history; tries = a.attempts.history; opening = a.book.now.opening }
