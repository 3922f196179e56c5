-- A path that is not among those so far makes one more.
use Rattle.std.proofs.Common.{◌<◌, length, arith, sym, ◌∙◌}
use Rattle.sno_edit.proofs.BatchLemmas.{differ_more}
use Rattle.sno_edit.proofs.batches.batch_len.Goals as goal

pub loop-count-preserved : goal.loop-count-preserved
loop-count-preserved c =
    let within : c.loop-count.count < length c.args.paths.now = omega (arith, c.min-most.ensures, c.loop-count-test.true) in
    differ_more _ _ _ within c.loop-count.invariant (sym c.has.ensures ∙ c.if-has.false)
