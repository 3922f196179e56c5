use Rattle.std.proofs.Common.{rules}
use Rattle.sno_book.proofs.SameEntries.{decided}
use Rattle.sno_book.proofs.audits.same_entry.Goals as goal

pub returns-then-same_statement : goal.returns-then-same_statement
returns-then-same_statement c = decided c.same_outcome.result c.args.one.now c.args.other.now (search rules)

pub returns-else-same_statement : goal.returns-else-same_statement
returns-else-same_statement c = decided c.if-one-other.value c.args.one.now c.args.other.now (search rules)
