use Rattle.std.proofs.Common.{All, Vec, Global, refl, slice_index_or, subst, sym, ◌∙◌, arith}
use Rattle.std.proofs.lemmas.Option.{slice_get-get_or}
use Rattle.std.specs.Vec.Iter.{into_iter_steps}
use Rattle.sno_files.specs.InThreads.{IsCalled}
use Rattle.sno_files.specs.declared.in_threads.Numbered.{Numbered}
use Rattle.sno_files.proofs.PlaceLemmas.{begun_after, done_after, first_left, none_yet}
use Rattle.sno_files.proofs.in_threads.side_by_side.Goals as goal

pub loop-results-init : goal.loop-results-init
loop-results-init g c =
    let P : Vec (Numbered g.row.X.Denot) Global → Type 0 = λ list. All (IsCalled g.F.Fn c.args.f.now c.empty.new.places) list.items in (
      refl,
      λ j d lt. none_yet g.F.Fn c.args.f.now (slice_index_or c.args.places.now j d) (slice_index_or c.empty.new.places j d)
          (c.empty.ensures.each j d (omega (arith, lt, c.empty.ensures.len))),
      subst (All P) (sym c.into_iter-results-iterator.ensures.into_iter_gives.0) c.call_in_threads-results-items.ensures,
    )

pub loop-results-preserved : goal.loop-results-preserved
loop-results-preserved g c =
    let P : Vec (Numbered g.row.X.Denot) Global → Type 0 = λ list. All (IsCalled g.F.Fn c.args.f.now c.empty.new.places) list.items in
    let (len, begun, left) = c.loop-results.invariant in
    let step = subst (λ r. into_iter_steps c.loop-results.results-iterator r c.next.new.self) c.in-Some.is c.next.ensures.steps in
    let (called, others) = first_left P _ _ c.in-Some.results step.0 left in (
      c.put_back.ensures.len ∙ len,
      λ j d lt. begun_after g.F.Fn c.args.f.now c.empty.new.places c.in-Some.results.items j (slice_index_or c.empty.new.places j d)
          (slice_index_or c.loop-results.places j d) (slice_index_or c.put_back.new.places j d) (slice_get-get_or c.empty.new.places j d lt) called
          (c.put_back.ensures.each j d (omega (arith, lt, len))) (begun j d lt),
      others,
    )

pub returns : goal.returns
returns g c i d lt =
    let (len, begun, left) = c.loop-results.invariant in
    let emptied = slice_index_or c.empty.new.places i d in
    done_after g.F.Fn c.args.f.now (slice_index_or c.args.places.now i d) emptied (slice_index_or c.fill_rest.new.places i d) (c.empty.ensures.each i d lt)
    (c.fill_rest.ensures i d emptied (omega (arith, lt, len, c.empty.ensures.len)) (begun i d (omega (arith, lt, c.empty.ensures.len))))
