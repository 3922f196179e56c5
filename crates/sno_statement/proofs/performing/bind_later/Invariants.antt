-- What is bound so far, with the assignments that are left, gives all the bindings.
use Rattle.std.proofs.Common.{◌≡◌, drop}
use Rattle.sno_statement.specs.Bindings.{bind_conds}
use Rattle.sno_statement.proofs.performing.bind_later.Given as goal

abbrev pub invariant-loop-name : goal.invariant-loop-name
invariant-loop-name l = bind_conds l.subject l.bindings (drop l.name-index l.conds) ≡ bind_conds l.subject l.fn.bindings l.conds
