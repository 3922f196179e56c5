-- A table without entries.
use Rattle.std.proofs.Common.{ap, ◌∙◌, arith}
use Rattle.sno_book.specs.Openings.{Opening}
use Rattle.sno_book.specs.Starts.{first_contents}
use Rattle.sno_published.proofs.Replays.{first}
use Rattle.sno_published.proofs.tables.Table.new.Goals as goal

pub invariant_of-result : goal.invariant_of-result
invariant_of-result g c =
    let front = c.again.ensures ∙ c.requires.front in
    let texts = c.in_ok-first_texts.ensures ∙ ap (λ (o : Opening). first_contents o.texts) (c.deref.ensures ∙ c.requires.opening) in (
      c.in_ok-try_clone.ensures ∙ c.requires.opening,
      ap (λ f. f.history) front,
      rw (ap (λ f. f.entries) front) (first g.L.Naming.opening c.in_ok-first_texts.field-0.items texts),
      rw (ap (λ f. f.entries) front) (omega arith),
      tt,
    )
