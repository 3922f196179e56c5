-- The failure of the whole match is left as a choice.
use Rattle.std.proofs.Common.{◌≡◌, ◌++◌, ◌∷◌, [], ap, sym, ◌∙◌, arith}
use Rattle.sno_pattern.specs.Events.{cut}
use Rattle.sno_pattern.specs.declared.events.Event.TheVariants.{Halt}
use Rattle.sno_machine.specs.Plans.{to_come, steps_to_come}
use Rattle.sno_machine.specs.History.{entries_of, context_at, conds_at, onward_at, place_to_come, place_steps, at_node}
use Rattle.sno_machine.proofs.PrimitiveLaws.{fence_same}
use Rattle.sno_machine.proofs.run.leaves.fence.Goals as goal

pub returns : goal.returns
returns c = λ s r halts held placed.
    let old = (entries_of c.args.history.now) in
    let at = c.args.at in
    let ctx = context_at s old at.frame in
    let a = conds_at old at.pending in
    let other = at_node at c.args.other in
    let come_other : place_to_come s old other ≡ Halt ∷ [] = ap (λ p. to_come s.text s.bodies p at.depth ctx.marks ctx.back at.cursor a) halts in
    let count_other : place_steps s old other ≡ 1 = ap (λ p. steps_to_come s.text s.bodies p at.depth ctx.marks ctx.back_steps at.cursor) halts in
    c.in_ok-step.ensures.chosen s r _ _ held placed
    (λ rest. fence_same s.text s.bodies at.cursor a (onward_at s old at c.args.next) rest ∙ ap (λ z. cut ((onward_at s old at c.args.next at.cursor a ++ z) ++ rest)) (sym come_other))
    (omega (arith, count_other))
