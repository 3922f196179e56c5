-- The parts so far, with those that are left, are all; and if all that are left are plain, so are all.
use Rattle.std.proofs.Common.{◌≡◌, ◌++◌, drop, map}
use Rattle.std.specs.List.{list_all}
use Rattle.sno_read.specs.ByteParts.{part_of}
use Rattle.sno_statement.specs.FileStatements.{is_plain}
use Rattle.sno_statement.proofs.file_statements.plain_object.Given as goal

abbrev pub invariant-loop-part : goal.invariant-loop-part
invariant-loop-part l = record {
  so_far : l.plain.items ++ map part_of (drop l.part-index l.parts) ≡ map part_of l.parts;
  plain : list_all is_plain (map part_of (drop l.part-index l.parts)) ≡ list_all is_plain (map part_of l.parts);
}
