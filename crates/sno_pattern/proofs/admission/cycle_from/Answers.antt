-- A dead end shows that there is no cycle. A way back, with the definition itself before it, is one.
use Rattle.std.proofs.Common.{Bool, List, length, reverse, subst, ◌∙◌}
use Rattle.sno_pattern.specs.Tree.{trees}
use Rattle.sno_pattern.specs.Searching.{IsDeadEnd, IsFreshWay}
use Rattle.sno_pattern.proofs.Cycles.{no_chain, cycle_found}
use Rattle.sno_pattern.proofs.admission.cycle_from.Goals as goal

pub returns-in-None : goal.returns-in-None
returns-in-None c =
    let d : IsDeadEnd (trees c.args.bodies.now) c.args.start c.args.start c.deref_mut.result.now c.way.new.seen = rw c.in-None.is at c.in_ok-found.ensures in
    let P : List Bool → Type 0 = λ s. IsDeadEnd (trees c.args.bodies.now) c.args.start c.args.start s c.way.new.seen in
    no_chain (trees c.args.bodies.now) c.args.start (length c.args.bodies.now) c.way.new.seen (subst P (c.deref_mut.ensures.value ∙ c.in_ok-seen.ensures) d)

pub returns : goal.returns
returns c =
    let w : IsFreshWay (trees c.args.bodies.now) c.args.start (reverse c.in-Some.cycle.items) c.args.start c.deref_mut.result.now = rw c.in-Some.is at c.in_ok-found.ensures in
    let P : List Bool → Type 0 = λ s. IsFreshWay (trees c.args.bodies.now) c.args.start (reverse c.in-Some.cycle.items) c.args.start s in
    cycle_found (trees c.args.bodies.now) c.args.start (length c.args.bodies.now) c.in-Some.cycle.items c.push.new.self.items c.reverse.new.self.items c.requires.inside
    (subst P (c.deref_mut.ensures.value ∙ c.in_ok-seen.ensures) w) c.in_ok-push-in-Some.ensures.items c.reverse.ensures.items
