-- No front is before the cursor.
use Rattle.std.proofs.Common.{◌≤◌, ◌-◌, length}
use Rattle.sno_machine.specs.Beginnings.{NoFrontsFrom}
use Rattle.sno_machine.proofs.starts.front_search.FrontSearch.next.Given as goal

abbrev pub invariant-loop-from : goal.invariant-loop-from
invariant-loop-from l = record {
  past : l.start ≤ l.from;
  within : l.from ≤ length l.text;
  none : NoFrontsFrom l.text l.self.fronts l.start l.from;
}

abbrev pub decreases-loop-from : goal.decreases-loop-from
decreases-loop-from l = length l.text - l.from
