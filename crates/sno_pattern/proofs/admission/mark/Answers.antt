-- One more mark is sound; when no mark is missing, the marks are exact.
use Rattle.std.proofs.Common.{length, ◌≡◌, ◌∙◌}
use Rattle.sno_pattern.specs.Tree.{trees}
use Rattle.sno_pattern.proofs.Marks.{fewer, sound_more, exact}
use Rattle.sno_pattern.proofs.admission.mark.Goals as goal

pub loop-number-smaller : goal.loop-number-smaller
loop-number-smaller c =
    let as_many : length c.loop-number.marks ≡ length c.args.bodies.now = c.loop-number.auto.marks ∙ c.requires.as_many in
    fewer c.args.bodies.now c.loop-number.marks c.in-Some.number as_many c.in-Some.ensures

pub loop-number-preserved : goal.loop-number-preserved
loop-number-preserved c = sound_more (trees c.args.bodies.now) c.loop-number.marks c.in-Some.number c.loop-number.invariant c.in-Some.ensures

pub returns-clause-exact : goal.returns-clause-exact
returns-clause-exact c = exact (trees c.args.bodies.now) c.loop-number.marks c.loop-number.invariant c.in_default.ensures
