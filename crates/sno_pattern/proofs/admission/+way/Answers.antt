-- The steps of the search.
use Rattle.std.proofs.Common.{◌≡◌, ◌<◌, ℕ, ◌+◌, Bool, true, List, length, reverse, slice_index_or, slice_set, sym, subst, ◌∙◌, arith}
use Rattle.std.proofs.lemmas.List.{length-set}
use Rattle.sno_pattern.specs.Tree.{trees}
use Rattle.sno_pattern.specs.Searching.{AreReferences, IsFreshWay, IsDeadEnd, IsSearched}
use Rattle.sno_pattern.proofs.Search.{searched_none, searched_seen, searched_more, dead_end, way_ends, way_goes_on, search_falls, low_reference, same_references}
use Rattle.sno_pattern.proofs.admission.+way.Goals as goal
use Rattle.sno_pattern.proofs.admission.+way.Goals.{then-not-seen-next+in_ok-rest+in_default, else-not-seen-next}

pub loop-next-init : goal.loop-next-init
loop-next-init t c = searched_none (trees c.args.bodies.now) c.args.target c.deref-next-items.result.now c.args.seen.now

pub returns-then-next-target : goal.returns-then-next-target
returns-then-next-target t c =
    let r : AreReferences (trees c.args.bodies.now) c.args.from c.deref-next-items.result.now =
    same_references (trees c.args.bodies.now) c.args.from c.in_ok-found.found.items c.deref-next-items.result.now c.in_ok-found.ensures c.deref-next-items.ensures.value in
    way_ends (trees c.args.bodies.now) c.args.target c.args.from c.deref-next-items.result.now c.loop-next.next-index c.args.seen.now c.new.result.items r
    c.loop-next-test.true c.if-next-target.true c.new.ensures.items

pub bounds-seen-next : goal.bounds-seen-next
bounds-seen-next t c =
    let r : AreReferences (trees c.args.bodies.now) c.args.from c.deref-next-items.result.now =
    same_references (trees c.args.bodies.now) c.args.from c.in_ok-found.found.items c.deref-next-items.result.now c.in_ok-found.ensures c.deref-next-items.ensures.value in
    low_reference c.args.bodies.now c.args.from c.deref-next-items.result.now c.loop-next.next-index c.loop-next.seen r c.loop-next-test.true
    (c.loop-next.auto.seen ∙ c.requires.room)

pub bounds-seen-next-then-not-seen-next : goal.bounds-seen-next-then-not-seen-next
bounds-seen-next-then-not-seen-next t c =
    let r : AreReferences (trees c.args.bodies.now) c.args.from c.deref-next-items.result.now =
    same_references (trees c.args.bodies.now) c.args.from c.in_ok-found.found.items c.deref-next-items.result.now c.in_ok-found.ensures c.deref-next-items.ensures.value in
    low_reference c.args.bodies.now c.args.from c.deref-next-items.result.now c.loop-next.next-index c.loop-next.seen r c.loop-next-test.true
    (c.loop-next.auto.seen ∙ c.requires.room)

pub way-requires : goal.way-requires
way-requires t c =
    let r : AreReferences (trees c.args.bodies.now) c.args.from c.deref-next-items.result.now =
    same_references (trees c.args.bodies.now) c.args.from c.in_ok-found.found.items c.deref-next-items.result.now c.in_ok-found.ensures c.deref-next-items.ensures.value in
    let long : length c.loop-next.seen ≡ length c.args.bodies.now = c.loop-next.auto.seen ∙ c.requires.room in
    let next : ℕ = slice_index_or c.deref-next-items.result.now c.loop-next.next-index 0 in
    let low : next < length c.loop-next.seen =
    low_reference c.args.bodies.now c.args.from c.deref-next-items.result.now c.loop-next.next-index c.loop-next.seen r c.loop-next-test.true long in
    let falls = search_falls c.args.seen.now c.loop-next.seen next c.loop-next.auto.seen c.loop-next.invariant.kept low c.if-not-seen-next.true in
    (omega (arith, c.decreases, falls), (omega arith, (c.requires.closed, (c.requires.exact, length-set c.loop-next.seen next true ∙ long))))

pub returns-in-Some : goal.returns-in-Some
returns-in-Some t c =
    let r : AreReferences (trees c.args.bodies.now) c.args.from c.deref-next-items.result.now =
    same_references (trees c.args.bodies.now) c.args.from c.in_ok-found.found.items c.deref-next-items.result.now c.in_ok-found.ensures c.deref-next-items.ensures.value in
    let long : length c.loop-next.seen ≡ length c.args.bodies.now = c.loop-next.auto.seen ∙ c.requires.room in
    let next : ℕ = slice_index_or c.deref-next-items.result.now c.loop-next.next-index 0 in
    let low : next < length c.loop-next.seen =
    low_reference c.args.bodies.now c.args.from c.deref-next-items.result.now c.loop-next.next-index c.loop-next.seen r c.loop-next-test.true long in
    let w : IsFreshWay (trees c.args.bodies.now) next (reverse c.in-Some.rest.items) c.args.target (slice_set c.loop-next.seen next true) = rw c.in-Some.is at c.in_ok-rest.ensures in
    way_goes_on (trees c.args.bodies.now) c.args.target c.args.from c.deref-next-items.result.now c.loop-next.next-index c.args.seen.now c.loop-next.seen
    c.in-Some.rest.items c.push.new.self.items r c.loop-next-test.true c.loop-next.invariant low c.if-not-seen-next.true w c.in_ok-push.ensures.items

pub loop-next-preserved : goal.loop-next-preserved
loop-next-preserved t c =
    let r : AreReferences (trees c.args.bodies.now) c.args.from c.deref-next-items.result.now =
    same_references (trees c.args.bodies.now) c.args.from c.in_ok-found.found.items c.deref-next-items.result.now c.in_ok-found.ensures c.deref-next-items.ensures.value in
    let next : ℕ = slice_index_or c.deref-next-items.result.now c.loop-next.next-index 0 in
    let low : next < length c.loop-next.seen =
    low_reference c.args.bodies.now c.args.from c.deref-next-items.result.now c.loop-next.next-index c.loop-next.seen r c.loop-next-test.true
    (c.loop-next.auto.seen ∙ c.requires.room) in
    let P : List Bool → Type 0 =
    IsSearched (trees c.args.bodies.now) c.deref-next-items.result.now (c.loop-next.next-index + 1) c.args.target c.args.seen.now in
    elim c.if-not-seen-next.branch [
      | then-not-seen-next+in_ok-rest+in_default w ↦
          let d : IsDeadEnd (trees c.args.bodies.now) next c.args.target (slice_set c.loop-next.seen next true) w.way.new.seen = rw w.in_default.is at w.in_ok-rest.ensures in
          subst P (sym w.seen-is)
          (searched_more (trees c.args.bodies.now) c.args.target c.deref-next-items.result.now c.loop-next.next-index c.args.seen.now c.loop-next.seen w.way.new.seen
          c.loop-next.invariant c.if-next-target.false low d)
      | else-not-seen-next w ↦
          subst P (sym w.seen-is)
          (searched_seen (trees c.args.bodies.now) c.args.target c.deref-next-items.result.now c.loop-next.next-index c.args.seen.now c.loop-next.seen
          c.loop-next.invariant c.if-next-target.false w.if-not-seen-next.false)
    ]

pub returns : goal.returns
returns t c =
    let r : AreReferences (trees c.args.bodies.now) c.args.from c.deref-next-items.result.now =
    same_references (trees c.args.bodies.now) c.args.from c.in_ok-found.found.items c.deref-next-items.result.now c.in_ok-found.ensures c.deref-next-items.ensures.value in
    dead_end (trees c.args.bodies.now) c.args.target c.args.from c.deref-next-items.result.now c.loop-next.next-index c.args.seen.now c.loop-next.seen r
    (omega arith) c.loop-next.invariant
