-- The characters before the first one that is in the set.
use Rattle.std.proofs.Common.{sym}
use Rattle.sno_pattern.specs.Classes.{has}
use Rattle.sno_primitives.proofs.Seeking.{passed_is, all_passed}
use Rattle.sno_primitives.proofs.runs.run_before.Goals as goal

pub returns-in-Some : goal.returns-in-Some
returns-in-Some c = sym (passed_is (has c.args.set.now) c.args.rest.now c.in-Some.passed c.in-Some.ensures)

pub returns-in-None : goal.returns-in-None
returns-in-None c = sym (all_passed (has c.args.set.now) c.args.rest.now c.in-None.ensures)
