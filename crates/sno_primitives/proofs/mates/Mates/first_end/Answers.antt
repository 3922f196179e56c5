-- An end of BAL is past the cursor, and within the text.
use Rattle.std.proofs.Common.{rules, ◌≡◌, ◌∷◌}
use Rattle.sno_pattern.specs.Ends.{bal_ends}
use Rattle.sno_primitives.proofs.MateLaws.{bal_inside}
use Rattle.sno_primitives.proofs.mates.Mates.first_end.Goals as goal

pub returns-in-Some-clause-past : goal.returns-in-Some-clause-past
returns-in-Some-clause-past c =
    let t = c.args.text.now in
    let e = c.in-Some.end.now in
    let ends : bal_ends t c.args.c ≡ e ∷ bal_ends t e = search rules in
    bal_inside t c.args.c e (bal_ends t e) c.requires.within ends
