-- The rounds so far, with those that are left, give the result of all rounds.
use Rattle.std.proofs.Common.{◌≡◌, ◌-◌, ◌≤◌}
use Rattle.std.specs.Arc.{arc_value}
use Rattle.sno_statement.specs.Perform.{rounds}
use Rattle.sno_statement.proofs.performing.go_on.Given as goal

abbrev pub invariant-loop-matches : goal.invariant-loop-matches
invariant-loop-matches l = record {
  same : rounds l.statement (l.times - 1) 1 l.fn.last.0 (arc_value l.fn.last.1) ≡ rounds l.statement (l.times - l.matches) l.matches l.last.0 (arc_value l.last.1);
  within : l.matches ≤ l.times;
}
