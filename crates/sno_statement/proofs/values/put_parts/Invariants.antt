-- The value of the parts so far, and that of the parts that are left.
use Rattle.std.proofs.Common.{◌≡◌, ◌++◌, drop, IsTrue}
use Rattle.std.specs.List.{list_all}
use Rattle.std.specs.Char.{is_ascii}
use Rattle.sno_statement.specs.Value.{value_of}
use Rattle.sno_statement.proofs.values.put_parts.Given as goal

abbrev pub invariant-loop-part : goal.invariant-loop-part
invariant-loop-part l = record {
  value : l.out.items ++ value_of l.bindings (drop l.part-index l.parts) ≡ l.fn.out.items ++ value_of l.bindings l.parts;
  ascii : IsTrue (list_all is_ascii l.fn.out.items) → IsTrue (list_all is_ascii l.out.items);
}
