use Rattle.std.proofs.Common.{◌≡◌, ◌++◌, All, take, drop, length, slice_index_or, subst, sym, arith}
use Rattle.std.proofs.lemmas.Grind.{common_steps}
use Rattle.std.proofs.Common.{Vec, Global}
use Rattle.sno_files.specs.InThreads.{IsCalled}
use Rattle.sno_files.specs.declared.in_threads.Numbered.{Numbered}
use Rattle.sno_files.proofs.in_threads.call_in_threads.Goals as goal

-- each list is what the closure left there
pub returns : goal.returns
returns g c =
    let P : Vec (Numbered g.row.X.Denot) Global → Type 0 = λ list. All (IsCalled g.F.Fn c.args.f.now c.args.places.now) list.items in
    let lists = c.lists_for-lists.result in
    let left = c.for_each_mut.new.s in
    let same : take lists.len (left ++ drop (length left) lists.items) ≡ left = grind (arith, common_steps) in
    subst (All P) (sym same) (λ k d lt.
    let at = (c.for_each_mut.ensures k d (omega (arith, lt))).1 in
    subst P {y = slice_index_or left k d} at.left at.call)
