-- The first pattern is the first tree.
use Rattle.sno_pattern.proofs.BadRefs.{bad_ref_found}
use Rattle.sno_pattern.proofs.definitions.first_bad_ref.Goals as goal

pub returns : goal.returns
returns c = bad_ref_found c.args.bodies.now c.first_past.result c.first_past.ensures
