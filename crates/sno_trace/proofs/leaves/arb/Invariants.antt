-- The trials so far and those of the ends that are left are together all.
use Rattle.std.proofs.Common.{◌≡◌, ◌++◌, length}
use Rattle.sno_pattern.specs.Tree.{tree_of}
use Rattle.sno_pattern.specs.Ends.{arb_ends}
use Rattle.sno_trace.specs.Noted.{noted_ends, noted_tries, upto}
use Rattle.sno_trace.proofs.Ranges.{up_to}
use Rattle.sno_trace.proofs.leaves.arb.Given as goal

abbrev pub invariant-loop-end : goal.invariant-loop-end
invariant-loop-end l =
    l.events.items ++ upto l.left (noted_tries l.met.below l.again (tree_of l.met.leaf.now) l.met.cursor (up_to l.end (length l.text))) ≡ upto l.limit (noted_ends l.met.below (tree_of l.met.leaf.now) l.met.cursor (arb_ends l.text l.met.cursor))
