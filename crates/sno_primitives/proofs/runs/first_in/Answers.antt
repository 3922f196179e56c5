-- The first member is near, or there is none in a short text.
use Rattle.sno_pattern.specs.Classes.{has}
use Rattle.sno_primitives.proofs.Seeking.{first_near, none_near}
use Rattle.sno_primitives.proofs.runs.first_in.Goals as goal

pub returns-in-Some : goal.returns-in-Some
returns-in-Some c = first_near (has c.args.set.now) c.args.rest.now 32 c.front.result.now c.front.ensures c.in-Some.near c.in-Some.ensures

pub returns-in-None-2 : goal.returns-in-None-2
returns-in-None-2 c = none_near (has c.args.set.now) c.args.rest.now 32 c.front.result.now c.front.ensures c.if-rest-gt-NEAR.false c.in-None.ensures
