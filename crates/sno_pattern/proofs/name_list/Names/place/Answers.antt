-- The set finds the name by its place.
use Rattle.std.proofs.Common.{◌∙◌}
use Rattle.std.proofs.lemmas.Iterator.Adapters.{position_from-zero}
use Rattle.sno_pattern.specs.Identifiers.{same}
use Rattle.sno_pattern.proofs.name_list.Names.place.Goals as goal

pub returns : goal.returns
returns c = rw (← c.self.view_is) (c.get_index_of.ensures.index ∙ position_from-zero (same c.args.name.now) c.self.inside.set.keys)
