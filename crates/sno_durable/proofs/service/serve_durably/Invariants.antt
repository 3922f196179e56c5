-- The new ledger and histories, and the book's opening.
use Rattle.sno_durable.proofs.service.serve_durably.Given as goal

abbrev pub ghosts-at_named_desk-L-Ledger : goal.ghosts-at_named_desk-L-Ledger
ghosts-at_named_desk-L-Ledger g a = record { name = a.blank.ledger.name; parts = a.blank.ledger.parts }

abbrev pub ghosts-at_named_desk-L-Naming : goal.ghosts-at_named_desk-L-Naming
ghosts-at_named_desk-L-Naming g a = record { book = a.blank.history.history; tries = a.blank.attempts.history; opening = a.book.opening }
