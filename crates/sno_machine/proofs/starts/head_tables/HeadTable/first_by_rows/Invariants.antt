-- None of the characters so far begins a head.
use Rattle.std.proofs.Common.{◌≤◌, ◌-◌, ℕ, not, length}
use Rattle.sno_machine.specs.Beginnings.{is_passed}
use Rattle.sno_machine.proofs.FarLaws.{NonePass}
use Rattle.sno_machine.proofs.starts.head_tables.HeadTable.first_by_rows.Given as goal

abbrev pub invariant-loop-passed : goal.invariant-loop-passed
invariant-loop-passed l = (l.passed ≤ length l.text) × NonePass (λ x. not (is_passed l.self x)) l.text l.passed

abbrev pub decreases-loop-passed : goal.decreases-loop-passed
decreases-loop-passed l = length l.text - l.passed
