-- Two equal lines more.
use Rattle.std.proofs.Common.{◌<◌, length, arith, sym, ◌∙◌}
use Rattle.sno_edit.proofs.ScriptLemmas.{same_is, same_more}
use Rattle.sno_edit.proofs.scripts.shared.Goals as goal

pub loop-place-preserved : goal.loop-place-preserved
loop-place-preserved c =
    let olds : c.loop-place.place < length c.args.old.now = omega (arith, c.min-most.ensures, c.loop-place-test.true) in
    let news : c.loop-place.place < length c.args.new.now = omega (arith, c.min-most.ensures, c.loop-place-test.true) in
    same_more _ _ _ _ _ olds news c.loop-place.invariant (same_is _ _ (sym c.is_same.ensures ∙ c.if-not-is_same.false))
