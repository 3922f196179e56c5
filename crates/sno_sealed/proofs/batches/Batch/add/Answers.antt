-- A sealed line is a line.
use Rattle.std.proofs.Common.{◌≡◌, ◌+◌, sym, ◌∙◌, subst, List, ℕ}
use Rattle.sno_store.specs.Lines.{IsLine}
use Rattle.sno_sealed.proofs.LineLemmas.{sealed_is_line}
use Rattle.sno_sealed.proofs.batches.Batch.add.Goals as goal

pub push_line-requires : goal.push_line-requires
push_line-requires c =
    let old = c.args.self.now.chain in
    subst IsLine (sym (c.deref.ensures.value ∙ c.in_ok-sum.ensures.line))
    (sealed_is_line old.sum (old.lines + 1) c.args.first.now c.args.last.now c.args.payload.now c.requires.short c.requires.texts.0 c.requires.texts.1 c.requires.line)
