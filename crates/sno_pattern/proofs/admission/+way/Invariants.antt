-- The references so far lead nowhere new; each search marks a definition that was not seen before.
use Rattle.sno_pattern.specs.Tree.{trees}
use Rattle.sno_pattern.specs.Searching.{IsSearched}
use Rattle.sno_pattern.proofs.Marks.{unmarked_count}
use Rattle.sno_pattern.proofs.admission.+way.Given as goal

abbrev pub invariant-loop-next : goal.invariant-loop-next
invariant-loop-next l = IsSearched (trees l.bodies) l.next-items l.next-index l.target l.fn.seen l.seen

abbrev pub decreases-way : goal.decreases-way
decreases-way l = unmarked_count l.seen.now
