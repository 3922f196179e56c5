-- The owners so far are those of the replies so far.
use Rattle.sno_rewrite.specs.Owners.{Owns}
use Rattle.sno_rewrite.proofs.owners.owners.Given as goal

abbrev pub invariant-loop-place : goal.invariant-loop-place
invariant-loop-place l = Owns l.entries l.replies l.place l.owners.items
