-- The parts so far, with those that are left, are all.
use Rattle.std.proofs.Common.{◌≡◌, ◌++◌, drop, map}
use Rattle.sno_read.specs.ByteParts.{part_of}
use Rattle.sno_statement.proofs.file_statements.byte_parts.Given as goal

abbrev pub invariant-loop-part : goal.invariant-loop-part
invariant-loop-part l = map part_of l.bytes.items ++ drop l.part-index l.parts ≡ l.parts
