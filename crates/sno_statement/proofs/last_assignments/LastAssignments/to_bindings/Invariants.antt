-- What is bound so far, with the values that are left, gives all the values.
use Rattle.std.proofs.Common.{◌≡◌, [], drop}
use Rattle.sno_statement.specs.LastAssignments.{values_of_last}
use Rattle.sno_statement.proofs.LastValues.{bind_all}
use Rattle.sno_statement.proofs.last_assignments.LastAssignments.to_bindings.Given as goal

abbrev pub invariant-loop-place : goal.invariant-loop-place
invariant-loop-place l = bind_all l.bindings (values_of_last l.subject (drop l.place l.self)) ≡ bind_all [] (values_of_last l.subject l.self)
