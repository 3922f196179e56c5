-- What is assigned so far, with the assignments that are left, gives all the values.
use Rattle.std.proofs.Common.{◌≡◌, ℕ, List, drop}
use Rattle.sno_statement.specs.Bindings.{bind_conds}
use Rattle.sno_statement.specs.LastAssignments.{values_of_last}
use Rattle.sno_statement.proofs.assigned.Assigned.assign_later.Given as goal

abbrev pub invariant-loop-name : goal.invariant-loop-name
invariant-loop-name l = (t : List ℕ) → bind_conds t (values_of_last t l.self) (drop l.name-index l.conds) ≡ bind_conds t (values_of_last t l.fn.self) l.conds
