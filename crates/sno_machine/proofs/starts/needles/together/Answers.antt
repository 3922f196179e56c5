-- The heads are these bytes.
use Rattle.sno_machine.proofs.HeadLaws.{two_bytes, three_bytes}
use Rattle.sno_machine.proofs.starts.needles.together.Goals as goal

pub returns-in-2-Some-Some-default : goal.returns-in-2-Some-Some-default
returns-in-2-Some-Some-default c =
    let w = c.in-2-Some-Some-default in
    two_bytes c.args.heads.now w.first w.second w.is-0 w.ensures w.ensures'

pub returns-in-3-Some-Some-Some : goal.returns-in-3-Some-Some-Some
returns-in-3-Some-Some-Some c =
    let w = c.in-3-Some-Some-Some in
    three_bytes c.args.heads.now w.first w.second w.third w.is-0 w.ensures w.ensures' w.ensures''
