-- The Ends so far and those from the cursor on are together all.
use Rattle.std.proofs.Common.{◌≡◌, ◌-◌, ◌≤◌, ◌++◌, length}
use Rattle.sno_pattern.specs.Ends.{bal_ends}
use Rattle.sno_pattern.specs.Results.{further_ends}
use Rattle.sno_eval.proofs.leaves.further_bal.Given as goal

abbrev pub invariant-loop-end : goal.invariant-loop-end
invariant-loop-end l = record {
  added : l.events.items ++ further_ends (bal_ends l.text l.cursor) ≡ further_ends (bal_ends l.text l.c);
  within : l.cursor ≤ length l.text;
}

abbrev pub decreases-loop-end : goal.decreases-loop-end
decreases-loop-end l = length l.text - l.cursor
