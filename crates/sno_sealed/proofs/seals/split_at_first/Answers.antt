-- The first such byte.
use Rattle.std.proofs.Common.{◌≡◌, ◌∙◌}
use Rattle.sno_sealed.proofs.TailLemmas.{first_at, has_none}
use Rattle.sno_sealed.proofs.seals.split_at_first.Goals as goal

pub returns-in-None : goal.returns-in-None
returns-in-None c = has_none c.args.byte c.args.bytes.now c.in-None.ensures

pub returns-in-Some : goal.returns-in-Some
returns-in-Some c =
    let found = c.in-Some.ensures in
    let is = first_at c.args.byte c.args.bytes.now c.in-Some.at found.0.high found.0.before found.1 in
    (is.0, c.split_at.ensures.front ∙ is.1, c.split_at-in-Some.ensures.back ∙ is.2)
