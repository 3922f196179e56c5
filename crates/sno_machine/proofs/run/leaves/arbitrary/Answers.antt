-- The next cursor is left as a choice.
use Rattle.std.proofs.Common.{◌≡◌, ◌+◌, ◌≤◌, ◌++◌, length, ap, sym, ◌∙◌, arith}
use Rattle.sno_pattern.specs.Events.{cut}
use Rattle.sno_pattern.specs.Tree.{Arb}
use Rattle.sno_pattern.specs.Results.{results}
use Rattle.sno_machine.specs.Meaning.{carry, leaf_rest}
use Rattle.sno_machine.specs.Steps.{steps, leaf_steps}
use Rattle.sno_machine.specs.Plans.{to_come, steps_to_come}
use Rattle.sno_machine.specs.History.{entries_of, context_at, conds_at, onward_at, onward_steps, place_to_come, place_steps, at_node}
use Rattle.sno_machine.specs.declared.run.entries.Place.{Place}
use Rattle.sno_machine.proofs.HistoryLaws.{chosen}
use Rattle.sno_machine.proofs.PrimitiveLaws.{arb_same, arb_steps}
use Rattle.sno_machine.proofs.run.leaves.arbitrary.Goals as goal

pub returns : goal.returns
returns c = λ s r is plan held placed.
    let old = (entries_of c.args.history.now) in
    let new = (entries_of c.push.new.self) in
    let at = c.args.at in
    let ctx = context_at s old at.frame in
    let a = conds_at old at.pending in
    let go = onward_at s old at c.args.next in
    let count_go = onward_steps s old at c.args.next in
    let other : Place = record { node = at.node; cursor = at.cursor + 1; depth = at.depth; frame = at.frame; pending = at.pending } in
    let after : Place = at_node at c.args.next in
    let same_length = ap length is in
    let inside : at.cursor + 1 ≤ length s.text = omega (arith, same_length) in
    let come_other : place_to_come s old other ≡ carry (results s.text s.bodies at.depth Arb (at.cursor + 1)) a go = ap (λ p. to_come s.text s.bodies p at.depth ctx.marks ctx.back (at.cursor + 1) a) plan in
    let count_other : place_steps s old other ≡ steps s.text s.bodies at.depth Arb (at.cursor + 1) count_go = ap (λ p. steps_to_come s.text s.bodies p at.depth ctx.marks ctx.back_steps (at.cursor + 1)) plan in
    let law = c.arbitrary_ends_follow_one_another.ensures in
    let fewer = arb_steps s.text s.bodies law at.depth at.cursor count_go placed.0 in
    chosen s old r (carry (leaf_rest s.text Arb at.cursor) a go) (leaf_steps s.text Arb at.cursor count_go) after other new c.in_ok-push.ensures.entries held
    placed (inside, placed.1, placed.2)
    (λ rest. arb_same s.text s.bodies law at.depth at.cursor a go inside rest ∙ ap (λ z. cut ((go at.cursor a ++ z) ++ rest)) (sym come_other))
    (omega (arith, count_other, fewer))
