-- What is bound so far, with the assignments that are left, gives all the bindings.
use Rattle.std.proofs.Common.{◌≡◌, drop}
use Rattle.sno_pattern.specs.CursorLaws.{SetsLie}
use Rattle.sno_statement.specs.Bindings.{bind_sets}
use Rattle.sno_statement.proofs.performing.bind_at_once.Given as goal

abbrev pub invariant-loop-set : goal.invariant-loop-set
invariant-loop-set l = record {
  rest : bind_sets l.subject l.bindings (drop l.set-index l.sets) ≡ bind_sets l.subject l.fn.bindings l.sets;
  lie : SetsLie l.subject (drop l.set-index l.sets);
}
