-- A text in place of another one.
use Rattle.std.proofs.Common.{ap, sym, ◌∙◌, List, slice_get}
use Rattle.std.specs.Option.{option_map}
use Rattle.sno_published.specs.declared.stored_texts.StoredText.{StoredText}
use Rattle.sno_published.proofs.Replays.{renewed}
use Rattle.sno_published.proofs.stored_texts.put.Goals as goal

pub returns-clause-put : goal.returns-clause-put
returns-clause-put c =
    let version = ap (λ (l : List StoredText). option_map (λ s. s.version) (slice_get l c.args.place)) (sym c.deref.ensures.value) ∙ c.version_at.ensures in
    λ names name at. renewed name c.args.place c.version_at.result names c.args.stored.now.items _ at version c.in-Some.ensures.1
