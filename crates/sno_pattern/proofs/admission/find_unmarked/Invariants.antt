-- All the definitions so far that take have their marks.
use Rattle.sno_pattern.specs.Tree.{trees}
use Rattle.sno_pattern.specs.Searching.{AreCompleteBelow}
use Rattle.sno_pattern.proofs.admission.find_unmarked.Given as goal

abbrev pub invariant-loop-number : goal.invariant-loop-number
invariant-loop-number l = AreCompleteBelow (trees l.bodies) l.marks l.number
