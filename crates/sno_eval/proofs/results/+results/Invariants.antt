-- Each call has less to do; what was added and what is left to go on from are together all.
use Rattle.std.proofs.Common.{◌≡◌, ◌+◌, ◌++◌, length, drop}
use Rattle.sno_pattern.specs.Tree.{tree_of}
use Rattle.sno_pattern.specs.Events.{go_on}
use Rattle.sno_pattern.specs.Results.{results, rounds}
use Rattle.sno_pattern.specs.Laws.{AllEnds, Within}
use Rattle.sno_eval.proofs.Work.{work, nodes}
use Rattle.sno_eval.proofs.Going.{next_round}
use Rattle.sno_eval.proofs.results.+results.Given as goal

abbrev pub decreases-results : goal.decreases-results
decreases-results l = work (length l.text.now) l.rules.now.bodies l.depth (nodes (tree_of l.pattern.now)) 0

abbrev pub decreases-named : goal.decreases-named
decreases-named l = work (length l.text.now) l.rules.now.bodies l.depth 0 0

abbrev pub decreases-follow : goal.decreases-follow
decreases-follow l = work (length l.text.now) l.rules.now.bodies l.depth (nodes (tree_of l.pattern.now)) 1

abbrev pub decreases-repeat : goal.decreases-repeat
decreases-repeat l = work (length l.text.now) l.rules.now.bodies l.depth (nodes (tree_of l.left.part.now)) (l.left.count + 1)

abbrev pub invariant-follow-loop-event : goal.invariant-follow-loop-event
invariant-follow-loop-event l = record {
  added : l.all.items ++ go_on (drop l.event-index l.first) (results l.text l.rules.bodies l.depth (tree_of l.pattern)) ≡ go_on l.first (results l.text l.rules.bodies l.depth (tree_of l.pattern));
  inside : AllEnds (Within l.text 0) (drop l.event-index l.first);
}

abbrev pub invariant-repeat-loop-event : goal.invariant-repeat-loop-event
invariant-repeat-loop-event l = record {
  added : l.all.items ++ go_on (drop l.event-index l.event-items) (next_round (results l.text l.rules.bodies l.depth (tree_of l.left.part.now)) l.left.count l.c) ≡ rounds (results l.text l.rules.bodies l.depth (tree_of l.left.part.now)) l.left.count l.c;
  inside : AllEnds (Within l.text 0) (drop l.event-index l.event-items);
}
