-- What is counted so far, with the parts that are left, gives the whole length.
use Rattle.std.proofs.Common.{◌≡◌, ◌+◌, ◌*◌, ◌≤◌, drop, length, map}
use Rattle.sno_read.specs.ByteParts.{part_of}
use Rattle.sno_pattern.specs.declared.byte_texts.TheConstants.{MAX_BYTES}
use Rattle.sno_statement.specs.Value.{value_of}
use Rattle.sno_statement.proofs.spans.Spans.length_with.Given as goal

abbrev pub invariant-loop-part : goal.invariant-loop-part
invariant-loop-part l = record {
  counted : l.total + length (value_of l.self (map part_of (drop l.part-index l.parts))) ≡ l.already + length (value_of l.self (map part_of l.parts));
  few : l.total ≤ 2 * MAX_BYTES;
}
