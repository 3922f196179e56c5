-- The value of the parts so far, and that of the parts that are left.
use Rattle.std.proofs.Common.{◌≡◌, ◌++◌, drop, map}
use Rattle.sno_read.specs.ByteParts.{part_of}
use Rattle.sno_statement.specs.Value.{value_of}
use Rattle.sno_statement.proofs.spans.Spans.put.Given as goal

abbrev pub invariant-loop-part : goal.invariant-loop-part
invariant-loop-part l = l.out.items ++ value_of l.self (map part_of (drop l.part-index l.parts)) ≡ l.fn.out.items ++ value_of l.self (map part_of l.parts)
