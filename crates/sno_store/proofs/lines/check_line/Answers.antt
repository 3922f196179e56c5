use Rattle.std.proofs.Common.{arith}
use Rattle.sno_store.proofs.Splits.{no_break}
use Rattle.sno_store.proofs.lines.check_line.Goals as goal

pub returns-in-None-clause-line : goal.returns-in-None-clause-line
returns-in-None-clause-line c = no_break c.args.line.now c.if-line-ne123.false (λ j below. c.in-None.ensures j (omega arith) below)
