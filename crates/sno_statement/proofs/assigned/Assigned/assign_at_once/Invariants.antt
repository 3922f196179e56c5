-- What is assigned so far, with the assignments that are left, gives all the values.
use Rattle.std.proofs.Common.{◌≡◌, drop}
use Rattle.sno_pattern.specs.CursorLaws.{SetsLie}
use Rattle.sno_statement.specs.Bindings.{bind_sets}
use Rattle.sno_statement.specs.LastAssignments.{values_of_last}
use Rattle.sno_statement.proofs.assigned.Assigned.assign_at_once.Given as goal

abbrev pub invariant-loop-set : goal.invariant-loop-set
invariant-loop-set l = record {
  rest : bind_sets l.subject (values_of_last l.subject l.self) (drop l.set-index l.sets) ≡ bind_sets l.subject (values_of_last l.subject l.fn.self) l.sets;
  lie : SetsLie l.subject (drop l.set-index l.sets);
}
