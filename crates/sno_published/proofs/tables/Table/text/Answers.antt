-- The text at a place.
use Rattle.std.proofs.Common.{Option, List, ap, sym, ◌∙◌, slice_get}
use Rattle.std.specs.Option.{option_map}
use Rattle.std.specs.Arc.{arc_value}
use Rattle.sno_book.specs.Entries.{Entry}
use Rattle.sno_published.specs.Tables.{text_after, text_at}
use Rattle.sno_published.specs.declared.stored_texts.StoredText.{StoredText}
use Rattle.sno_published.proofs.Replays.{text_row}
use Rattle.sno_published.proofs.tables.Table.text.Goals as goal

pub returns-in-Some : goal.returns-in-Some
returns-in-Some g c =
    let row = text_row g.L.Naming.opening c.self.inside.front.entries c.self.inside.stored.items c.args.place c.self.invariant.2 in
    let here = c.in-Some.ensures ∙ ap (λ (l : List StoredText). slice_get l c.args.place) c.deref.ensures.value in
    ap (λ (o : Option StoredText). option_map (λ s. text_at g.L.Naming.opening c.args.place (arc_value s.text) s.version) o) here ∙ sym row
    ∙ ap (λ (es : List Entry). text_after g.L.Naming.opening es c.args.place) c.self.view_is

pub returns-in-None : goal.returns-in-None
returns-in-None g c =
    let row = text_row g.L.Naming.opening c.self.inside.front.entries c.self.inside.stored.items c.args.place c.self.invariant.2 in
    let here = c.in-None.ensures ∙ ap (λ (l : List StoredText). slice_get l c.args.place) c.deref.ensures.value in
    ap (λ (o : Option StoredText). option_map (λ s. text_at g.L.Naming.opening c.args.place (arc_value s.text) s.version) o) here ∙ sym row
    ∙ ap (λ (es : List Entry). text_after g.L.Naming.opening es c.args.place) c.self.view_is
