-- The new ledger and histories, and the opening of the document's book.
use Rattle.sno_rewrite.proofs.shared.perform_shared.Given as goal

abbrev pub ghosts-perform_at_desk-L-Ledger : goal.ghosts-perform_at_desk-L-Ledger
ghosts-perform_at_desk-L-Ledger g a = record { name = a.blank.ledger.name; parts = a.blank.ledger.parts }

abbrev pub ghosts-perform_at_desk-L-Naming : goal.ghosts-perform_at_desk-L-Naming
ghosts-perform_at_desk-L-Naming g a = record { book = a.blank.history.history; tries = a.blank.attempts.history; opening = a.document.book.opening }
