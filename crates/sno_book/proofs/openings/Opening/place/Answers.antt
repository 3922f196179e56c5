-- The place of a name among the names.
use Rattle.std.proofs.Common.{◌∙◌, ap, sym, List, ℕ}
use Rattle.std.proofs.lemmas.Iterator.Adapters.{position_from-zero}
use Rattle.std.proofs.lemmas.Map.Made.{keys_of-map_values}
use Rattle.std.specs.Arc.{arc_value}
use Rattle.std.specs.Map.{keys_of}
use Rattle.sno_pattern.specs.Identifiers.{same}
use Rattle.sno_pattern.specs.NameList.{place_of}
use Rattle.sno_book.specs.Openings.{Opening, names_in}
use Rattle.sno_book.proofs.openings.Opening.place.Goals as goal

pub returns : goal.returns
returns c =
    c.get_index_of.ensures.index ∙ position_from-zero (same c.args.name.now) (keys_of c.self.inside.texts.entries)
    ∙ ap (λ (ks : List (List ℕ)). place_of ks c.args.name.now) (sym (keys_of-map_values (λ t. arc_value t) c.self.inside.texts.entries))
    ∙ ap (λ (o : Opening). place_of (names_in o.texts) c.args.name.now) c.self.view_is
