-- The map's keys are distinct.
use Rattle.std.proofs.Common.{subst}
use Rattle.sno_statement.specs.Bindings.{AreDistinct}
use Rattle.sno_statement.proofs.Entries.{keys_are_distinct}
use Rattle.sno_statement.proofs.binding.Bindings.len.Goals as goal

pub returns-clause-distinct : goal.returns-clause-distinct
returns-clause-distinct c = subst AreDistinct c.self.view_is (keys_are_distinct c.self.inside.map.entries c.len.ensures.unique)
