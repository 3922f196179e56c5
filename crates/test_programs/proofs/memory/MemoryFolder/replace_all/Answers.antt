-- Each file is replaced after those before it.
use Rattle.std.proofs.Common.{◌≡◌, Some, OnOk, List, [], ◌∷◌, ◌++◌, take, refl, ap, sym, subst, ◌∙◌, ◌+◌, arith}
use Rattle.std.proofs.lemmas.List.{take_more}
use Rattle.sno_edit.specs.Batches.{AreReplaced}
use Rattle.test_programs.specs.Memory.{held}
use Rattle.test_programs.proofs.MemoryLaws.{one_more_replaced, one_replaced}
use Rattle.test_programs.proofs.memory.MemoryFolder.replace_all.Invariants.{holds}
use Rattle.test_programs.proofs.memory.MemoryFolder.replace_all.Goals as goal

pub loop-file-init : goal.loop-file-init
loop-file-init c = (
  subst (λ results. AreReplaced holds c.args.self.now [] results c.args.self.now) (sym c.in_ok-results.ensures.items) refl,
  c.in_ok-results.ensures.len,
  c.in_ok-results.ensures.capacity,
)

pub loop-file-preserved : goal.loop-file-preserved
loop-file-preserved c =
    let file = c.file-item.result in
    let done = c.replace-replaced.result in
    let before = c.loop-file.self in
    let after = c.replace-replaced.new.self in
    let whole : c.bytes.result.now ≡ c.deref.result.now = c.bytes.ensures.value in
    let written = subst (λ b. OnOk done (held file.path.now after.writings.items ≡ Some b)) (whole ∙ c.deref.ensures) c.replace-replaced.ensures.written in
    let one = one_replaced file (holds before) (holds after) done written c.replace-replaced.ensures.kept c.replace-replaced.ensures.others in
    let more = one_more_replaced holds c.args.self.now before after (take c.loop-file.file-index c.args.files.now) c.loop-file.results.items file done c.loop-file.invariant.0 one in
    let last : take (c.loop-file.file-index + 1) c.args.files.now ≡ take c.loop-file.file-index c.args.files.now ++ file ∷ [] =
    take_more c.args.files.now c.loop-file.file-index file c.loop-file-test.true ∙ ap (λ f. take c.loop-file.file-index c.args.files.now ++ f ∷ []) (sym c.file-item.is) in (
      subst (λ files. AreReplaced holds c.args.self.now files c.push.new.self.items after) (sym last)
          (subst (λ results. AreReplaced holds c.args.self.now (take c.loop-file.file-index c.args.files.now ++ file ∷ []) results after) (sym c.in-Ok.ensures.items) more),
      omega (arith, c.in-Ok.ensures.len, c.loop-file.invariant.1),
      omega (arith, c.in-Ok.ensures.capacity, c.loop-file.invariant.2),
    )
