-- The variable is among those that are left.
use Rattle.std.proofs.Common.{◌≡◌, drop}
use Rattle.sno_statement.specs.Bindings.{lookup}
use Rattle.sno_statement.proofs.binding_refs.last_of.Given as goal

abbrev pub invariant-loop-known : goal.invariant-loop-known
invariant-loop-known l = lookup l.name (drop l.known-index l.assigned) ≡ lookup l.name l.assigned
