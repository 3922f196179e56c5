-- The refusals so far are those of the pairs so far.
use Rattle.std.proofs.Common.{length, map, take}
use Rattle.std.specs.Arc.{arc_value}
use Rattle.sno_rewrite.specs.Owners.{Lists}
use Rattle.sno_rewrite.proofs.replies.refusals_of.Given as goal

abbrev pub invariant-loop-statement : goal.invariant-loop-statement
invariant-loop-statement l = Lists (take (length l.yielded) (map arc_value l.statements)) (take (length l.yielded) l.replies) l.refused.items
