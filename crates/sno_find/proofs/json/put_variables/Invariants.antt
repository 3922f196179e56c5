-- The variables so far, with those that are left.
use Rattle.std.proofs.Common.{◌≡◌, ◌++◌, drop}
use Rattle.sno_find.specs.Json.{variables_json}
use Rattle.sno_find.proofs.json.put_variables.Given as goal

abbrev pub invariant-loop-place : goal.invariant-loop-place
invariant-loop-place l = l.out.items ++ variables_json l.place (drop l.place l.bindings) ≡ l.fn.out.items ++ variables_json 0 l.bindings
