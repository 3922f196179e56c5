-- The trials so far and those of the ends from the cursor on are together all.
use Rattle.std.proofs.Common.{◌≡◌, ◌-◌, ◌≤◌, ◌++◌, length, false}
use Rattle.sno_pattern.specs.Tree.{tree_of}
use Rattle.sno_pattern.specs.Ends.{bal_ends}
use Rattle.sno_trace.specs.Noted.{noted_tries, upto}
use Rattle.sno_trace.proofs.leaves.balanced.Given as goal

abbrev pub invariant-loop-end : goal.invariant-loop-end
invariant-loop-end l = record {
  added : l.events.items ++ upto l.left (noted_tries l.met.below l.again (tree_of l.met.leaf.now) l.met.cursor (bal_ends l.text l.cursor)) ≡ upto l.limit (noted_tries l.met.below false (tree_of l.met.leaf.now) l.met.cursor (bal_ends l.text l.met.cursor));
  within : l.cursor ≤ length l.text;
}

abbrev pub decreases-loop-end : goal.decreases-loop-end
decreases-loop-end l = length l.text - l.cursor
