-- One name further.
use Rattle.std.proofs.Common.{map, sym, arith}
use Rattle.std.specs.Arc.{arc_value}
use Rattle.std.proofs.lemmas.Grind.{common_steps}
use Rattle.sno_serve.proofs.Rows.{name_moved}
use Rattle.sno_serve.proofs.versions.names_of.Goals as goal

pub loop-place-preserved : goal.loop-place-preserved
loop-place-preserved c =
    let step =
    name_moved (map (λ n. n.now) c.loop-place.names.items) c.args.opening.now.texts c.loop-place.place (c.in-Some.name.now, arc_value c.in-Some.field-0-1.now) c.loop-place.invariant
    (sym c.in-Some.ensures) in
    grind (arith, common_steps, step, c.in_ok-push.ensures.items)
