-- The first line of what is left.
use Rattle.std.proofs.Common.{ap, length, rules}
use Rattle.sno_store.specs.Shown.{lines_left}
use Rattle.sno_store.proofs.lines.LinesIterIterator.next.Goals as goal

pub returns-in_default-clause-steps : goal.returns-in_default-clause-steps
unfolding lines_left
returns-in_default-clause-steps c = (c.in_default.ensures, c.in_default.ensures)

pub returns-clause-steps : goal.returns-clause-steps
unfolding lines_left
returns-clause-steps c = c.in-Some.ensures.1

pub returns-clause-goes : goal.returns-clause-goes
unfolding lines_left
returns-clause-goes c =
    let shorter = ap length c.in-Some.ensures.1 in
    search rules
