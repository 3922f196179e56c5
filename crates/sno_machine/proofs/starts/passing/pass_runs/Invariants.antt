-- The starts before `from` were passed over.
use Rattle.std.proofs.Common.{◌+◌, ◌-◌, ◌≤◌, ℕ, List, length}
use Rattle.sno_pattern.specs.Tree.{Tree}
use Rattle.sno_machine.specs.Beginnings.{IsRunStart}
use Rattle.sno_machine.specs.Passing.{AreBeginnings}
use Rattle.sno_machine.specs.Endings.{PassesTo}
use Rattle.sno_machine.proofs.starts.passing.pass_runs.Given as goal

abbrev pub invariant-loop-from : goal.invariant-loop-from
invariant-loop-from l = record {
  inside : l.start ≤ l.from;
  within : l.from ≤ l.last + 1;
  passed : (bodies : List Tree) (p : Tree) (k : ℕ) → length bodies ≤ k → AreBeginnings bodies p l.beginnings → IsRunStart bodies p l.fn.run
      → PassesTo l.text bodies k p l.start l.last l.fn.progress l.progress l.from;
}

abbrev pub decreases-loop-from : goal.decreases-loop-from
decreases-loop-from l = l.last + 1 - l.from
