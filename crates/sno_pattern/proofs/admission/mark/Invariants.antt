-- The marks so far are sound; each round adds one.
use Rattle.sno_pattern.specs.Tree.{trees}
use Rattle.sno_pattern.specs.Searching.{AreSound}
use Rattle.sno_pattern.proofs.Marks.{unmarked_count}
use Rattle.sno_pattern.proofs.admission.mark.Given as goal

abbrev pub invariant-loop-number : goal.invariant-loop-number
invariant-loop-number l = AreSound (trees l.bodies) l.marks

abbrev pub decreases-loop-number : goal.decreases-loop-number
decreases-loop-number l = unmarked_count l.marks
