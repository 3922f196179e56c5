-- The step by which an entry is added.
use Rattle.std.proofs.Common.{sym, ◌∙◌, ap}
use Rattle.sno_published.proofs.Adding.{adds_moves}
use Rattle.sno_published.proofs.fronts.Front.grow.Goals as goal

pub compare_exchange-found-requires : goal.compare_exchange-found-requires
compare_exchange-found-requires c =
    let word = c.requires.history in
    let book = ap (λ b. b.history) c.self.view_is ∙ sym (ap (λ w. w.book) word) in
    let offer = c.plain-offer.ensures in
    let pen = c.no_pen-pen.ensures in (
      ap (λ w. w.tracked) word,
      book,
      pen.0 ∙ book,
      offer.0,
      rw (ap (λ w. w.key) word, pen.1, offer.1, offer.3) (adds_moves c.self.inside.seen.log c.args.entry.now.value c.self.inside.count (sym c.self.invariant)),
    )
