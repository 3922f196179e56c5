-- Each warning so far is one of this statement.
use Rattle.std.specs.List.{All}
use Rattle.sno_check.specs.Reports.{IsWarningOf}
use Rattle.sno_check.proofs.single.placed.Given as goal

abbrev pub invariant-loop-message : goal.invariant-loop-message
invariant-loop-message l = All (IsWarningOf l.number) l.warnings.items
