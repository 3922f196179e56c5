use Rattle.std.proofs.Common.{All, Contains, refl, subst, sym, inl, ◌∙◌}
use Rattle.std.proofs.lemmas.List.{length-set}
use Rattle.std.specs.Vec.Iter.{into_iter_steps}
use Rattle.sno_files.proofs.PlaceLemmas.{all_among, first_left, put_one}
use Rattle.sno_files.proofs.in_threads.put_back.Goals as goal

pub loop-one-init : goal.loop-one-init
loop-one-init g c =
    let all = c.args.results.items in
    (refl, λ j d lt. (refl, inl refl), subst (All (Contains all)) (sym c.into_iter-one-iterator.ensures.into_iter_gives.0) (all_among all))

pub loop-one-preserved-then-one-places : goal.loop-one-preserved-then-one-places
loop-one-preserved-then-one-places g c =
    let all = c.args.results.items in
    let (len, before, left) = c.loop-one.invariant in
    let step = subst (λ r. into_iter_steps c.loop-one.one-iterator r c.next.new.self) c.in-Some.is c.next.ensures.steps in
    let (among, others) = first_left (Contains all) _ _ c.in-Some.one step.0 left in (
      length-set c.loop-one.places c.in-Some.one.number _ ∙ len,
      put_one all c.args.places.now c.loop-one.places c.in-Some.one _ _ c.if-one-places.true len before among c.keep.ensures.path c.keep.ensures.kept,
      others,
    )

pub loop-one-preserved : goal.loop-one-preserved
loop-one-preserved g c =
    let (len, before, left) = c.loop-one.invariant in
    let step = subst (λ r. into_iter_steps c.loop-one.one-iterator r c.next.new.self) c.in-Some.is c.next.ensures.steps in
    (len, before, (first_left (Contains c.args.results.items) _ _ c.in-Some.one step.0 left).1)
