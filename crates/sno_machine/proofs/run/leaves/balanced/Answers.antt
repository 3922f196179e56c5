-- The further ends are left as a choice.
use Rattle.std.proofs.Common.{◌≡◌, ◌+◌, ◌≤◌, ◌++◌, ◌∷◌, length, ap, sym, ◌∙◌, arith}
use Rattle.sno_pattern.specs.Events.{cut}
use Rattle.sno_pattern.specs.Ends.{bal_ends}
use Rattle.sno_pattern.specs.Tree.{Bal}
use Rattle.sno_pattern.specs.Results.{further_ends}
use Rattle.sno_machine.specs.Meaning.{carry, leaf_rest}
use Rattle.sno_machine.specs.Steps.{end_steps, leaf_steps}
use Rattle.sno_machine.specs.Plans.{to_come, steps_to_come}
use Rattle.sno_machine.specs.History.{entries_of, context_at, conds_at, onward_at, onward_steps, place_to_come, place_steps, at_node}
use Rattle.sno_machine.specs.declared.run.entries.Place.{Place}
use Rattle.sno_machine.proofs.HistoryLaws.{chosen}
use Rattle.sno_machine.proofs.PrimitiveLaws.{bal_same, bal_steps}
use Rattle.sno_machine.proofs.run.leaves.balanced.Goals as goal

pub returns-in_ok-push-in-Some : goal.returns-in_ok-push-in-Some
returns-in_ok-push-in-Some c = λ s r is plan held placed.
    let old = (entries_of c.args.history.now) in
    let new = (entries_of c.push.new.self) in
    let at = c.args.at in
    let end = c.in-Some.end in
    let ctx = context_at s old at.frame in
    let a = conds_at old at.pending in
    let go = onward_at s old at c.args.next in
    let count_go = onward_steps s old at c.args.next in
    let there : Place = record { node = at.node; cursor = end; depth = at.depth; frame = at.frame; pending = at.pending } in
    let other : Place = at_node there c.args.other in
    let after : Place = at_node there c.args.next in
    let ends : bal_ends s.text at.cursor ≡ end ∷ bal_ends s.text end = ap (λ t. bal_ends t at.cursor) is ∙ c.in-Some.ensures.exact ∙ ap (λ t. end ∷ bal_ends t end) (sym is) in
    let inside : end ≤ length s.text = omega (arith, c.in-Some.ensures.past, ap length is) in
    let come_other : place_to_come s old other ≡ carry (further_ends (bal_ends s.text end)) a go = ap (λ p. to_come s.text s.bodies p at.depth ctx.marks ctx.back end a) plan in
    let count_other : place_steps s old other ≡ 1 + end_steps (bal_ends s.text end) count_go = ap (λ p. steps_to_come s.text s.bodies p at.depth ctx.marks ctx.back_steps end) plan in
    let fewer = bal_steps s.text s.bodies at.cursor end count_go ends in
    chosen s old r (carry (leaf_rest s.text Bal at.cursor) a go) (leaf_steps s.text Bal at.cursor count_go) after other new c.in_ok-push-in-Some.ensures.entries held
    (inside, placed.1, placed.2) (inside, placed.1, placed.2)
    (λ rest. bal_same s.text s.bodies at.cursor end a go ends rest ∙ ap (λ z. cut ((go end a ++ z) ++ rest)) (sym come_other))
    (omega (arith, count_other, fewer))
