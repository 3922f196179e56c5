-- So many characters were passed, and the run goes on from there.
use Rattle.std.proofs.Common.{◌≡◌, ◌+◌, ◌-◌, ◌≤◌, length, drop}
use Rattle.std.specs.List.{take_while}
use Rattle.sno_primitives.specs.Rows.{goes_by_rows}
use Rattle.sno_primitives.proofs.rows.Rows.long_run.Given as goal

abbrev pub invariant-loop-passed : goal.invariant-loop-passed
invariant-loop-passed l = record {
  on : length (take_while (goes_by_rows l.inside l.self) l.text) ≡ l.passed + length (take_while (goes_by_rows l.inside l.self) (drop l.passed l.text));
  within : l.passed ≤ length l.text;
}

abbrev pub decreases-loop-passed : goal.decreases-loop-passed
decreases-loop-passed l = length l.text - l.passed
