-- One, two or three members are sought together.
use Rattle.std.proofs.Common.{subst}
use Rattle.memchr.specs.Find.{IsFirstByte}
use Rattle.sno_pattern.specs.Classes.{has}
use Rattle.sno_primitives.proofs.Seeking.{first_of_one, first_of_two, first_of_three}
use Rattle.sno_primitives.proofs.runs.first_by_bytes.Goals as goal

pub returns-in-len1 : goal.returns-in-len1
returns-in-len1 c =
    subst (λ s. IsFirstByte (has s) c.args.rest.now c.memchr.result) c.members.ensures
    (first_of_one c.members.result.now c.args.rest.now c.memchr.result c.in-len1.len_at_least c.in-len1.len_below c.memchr.ensures)

pub returns-in-len2 : goal.returns-in-len2
returns-in-len2 c =
    subst (λ s. IsFirstByte (has s) c.args.rest.now c.memchr2.result) c.members.ensures
    (first_of_two c.members.result.now c.args.rest.now c.memchr2.result c.in-len2.len_at_least c.in-len2.len_below c.memchr2.ensures)

pub returns-in-len3 : goal.returns-in-len3
returns-in-len3 c =
    subst (λ s. IsFirstByte (has s) c.args.rest.now c.memchr3.result) c.members.ensures
    (first_of_three c.members.result.now c.args.rest.now c.memchr3.result c.in-len3.len_at_least c.in-len3.len_below c.memchr3.ensures)
