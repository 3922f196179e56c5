-- Each call has less to do; what was added and what is left to go on from are together all.
use Rattle.std.proofs.Common.{◌≡◌, ◌+◌, ◌++◌, length, drop}
use Rattle.sno_pattern.specs.Tree.{tree_of}
use Rattle.sno_pattern.specs.Laws.{AllEnds, Within}
use Rattle.sno_trace.specs.Noted.{go_on, noted, noted_rounds, upto, erase}
use Rattle.sno_trace.proofs.Work.{work, nodes}
use Rattle.sno_trace.proofs.Going.{next_round}
use Rattle.sno_trace.proofs.walking.+walk.Given as goal

abbrev pub decreases-walk : goal.decreases-walk
decreases-walk l = work (length l.setting.now.text.now) l.setting.now.rules.now.bodies l.setting.now.depth (nodes (tree_of l.pattern.now)) 0

abbrev pub decreases-named : goal.decreases-named
decreases-named l = work (length l.setting.now.text.now) l.setting.now.rules.now.bodies l.setting.now.depth 0 0

abbrev pub decreases-follow : goal.decreases-follow
decreases-follow l = work (length l.setting.now.text.now) l.setting.now.rules.now.bodies l.setting.now.depth (nodes (tree_of l.pattern.now)) 1

abbrev pub decreases-repeat : goal.decreases-repeat
decreases-repeat l = work (length l.setting.now.text.now) l.setting.now.rules.now.bodies l.setting.now.depth (nodes (tree_of l.rounds.part.now)) (l.rounds.count + 1)

abbrev pub invariant-follow-loop-event : goal.invariant-follow-loop-event
invariant-follow-loop-event l = record {
  added : l.all.items ++ upto l.left (go_on (drop l.event-index l.first) (noted l.setting.text.now l.setting.rules.now.bodies l.setting.depth (tree_of l.pattern))) ≡ upto l.limit (go_on l.first (noted l.setting.text.now l.setting.rules.now.bodies l.setting.depth (tree_of l.pattern)));
  inside : AllEnds (Within l.setting.text.now 0) (erase (drop l.event-index l.first));
}

abbrev pub invariant-repeat-loop-event : goal.invariant-repeat-loop-event
invariant-repeat-loop-event l = record {
  added : l.all.items ++ upto l.left (go_on (drop l.event-index l.event-items) (next_round l.setting.depth (noted l.setting.text.now l.setting.rules.now.bodies l.setting.depth (tree_of l.rounds.part.now)) l.rounds.count l.c)) ≡ upto l.limit (noted_rounds l.setting.depth (noted l.setting.text.now l.setting.rules.now.bodies l.setting.depth (tree_of l.rounds.part.now)) l.rounds.count l.c);
  inside : AllEnds (Within l.setting.text.now 0) (erase (drop l.event-index l.event-items));
}
