-- The new histories, and the book that was passed.
use Rattle.test_desk.proofs.viewers.watched_beside.Given as goal

abbrev pub ghosts-watch_beside-L-Ledger : goal.ghosts-watch_beside-L-Ledger
ghosts-watch_beside-L-Ledger g a = record { name = 0; parts = 0 }

abbrev pub ghosts-watch_beside-L-Naming : goal.ghosts-watch_beside-L-Naming
ghosts-watch_beside-L-Naming g a = record { book = a.history.history; tries = a.attempts.history; opening = a.book.now.opening }
