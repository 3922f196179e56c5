-- The attempt ends in the entry that is taken in.
use Rattle.std.proofs.Common.{None, List, ◌++◌, ap, sym, ◌∙◌}
use Rattle.sno_book.specs.Entries.{Entry}
use Rattle.sno_published.specs.Changes.{last_of}
use Rattle.sno_published.proofs.LastEntries.{last_snoc}
use Rattle.sno_published.proofs.tables.Table.absorb.Goals as goal

pub take_in-requires-clause-tried : goal.take_in-requires-clause-tried
take_in-requires-clause-tried g c =
    let step = c.before-before.ensures.step in
    let before = c.args.operation.now.before in
    let front = ap (λ f. last_of f.entries) c.requires ∙ ap (λ (l : List Entry). last_of (before ++ l)) step.1 ∙ last_snoc None before step.0 in
    let tried = ap (λ f. last_of f.entries) c.again.ensures ∙ c.tried.ensures.last step.0 step.1 in (
      ap (λ f. f.history) c.again.ensures ∙ c.tried.ensures.history,
      front ∙ sym tried,
    )
