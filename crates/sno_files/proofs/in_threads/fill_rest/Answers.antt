use Rattle.std.proofs.Common.{◌<◌, length, subst, sym, ◌∙◌, arith}
use Rattle.std.proofs.lemmas.List.{length-set, get_or_default, get_or-set_other}
use Rattle.sno_files.specs.InThreads.{IsBegun, IsDone}
use Rattle.sno_files.proofs.PlaceLemmas.{each_set}
use Rattle.sno_files.proofs.in_threads.fill_rest.Goals as goal

pub loop-i-preserved : goal.loop-i-preserved
loop-i-preserved g c =
    let k = c.loop-i.i in let xs = c.args.places.now in let ys = c.loop-i.places in let y = c.fill.new.place in
    let (len, later, so_far) = c.loop-i.invariant in
    let lt : k < length ys = omega arith in (
      length-set ys k y ∙ len,
      λ j d le. get_or-set_other ys k j y d (λ e. omega arith) ∙ later j d (omega arith),
      λ j d old below. each_set (λ _ x z. IsBegun g.F.Fn c.args.f.now old x → IsDone g.F.Fn c.args.f.now old z) xs ys k y lt
          (λ d begun. c.fill.ensures old (subst (IsBegun g.F.Fn c.args.f.now old) (sym (later k d (omega arith)) ∙ get_or_default ys k d _ lt) begun))
          j d (λ n. so_far j d old (omega arith)),
    )
