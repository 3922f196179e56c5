use Rattle.std.proofs.Common.{◌∙◌, arith}
use Rattle.sno_book.specs.SameEntries.{same_part}
use Rattle.sno_book.proofs.Pairs.{zipped}
use Rattle.sno_book.proofs.same_statements.same_parts.Goals as goal

pub returns-then-one-other : goal.returns-then-one-other
returns-then-one-other c = c.same_part_pairs.ensures ∙ zipped same_part c.args.one.now c.args.other.now (omega arith)
