-- The references of the pattern are to definitions.
use Rattle.std.proofs.Common.{◌≡◌, length, ap, subst, ◌∙◌}
use Rattle.std.specs.Arc.{arc_value}
use Rattle.sno_pattern.specs.Tree.{tree_of}
use Rattle.sno_pattern.specs.Definitions.{Definitions}
use Rattle.sno_document.proofs.BoundLemmas.{covered}
use Rattle.sno_document.proofs.bound.bound_pattern.Goals as goal

pub returns-clause-covered : goal.returns-clause-covered
returns-clause-covered c =
    let same : c.deref.result.now ≡ arc_value c.args.bound.rules.now = c.deref.ensures in
    covered (arc_value c.args.bound.rules.now).names c.args.bound.names.now c.args.bound.texts.now c.len-defined.result (length (arc_value c.args.bound.rules.now).bodies) (tree_of c.in_ok-pattern.pattern)
    (tree_of c.bind.new.pattern) c.requires.bound c.in_ok-pattern.ensures.covered
    (c.len-defined.ensures.value ∙ ap length c.names.ensures.value ∙ ap (λ (z : Definitions). length z.names) same)
    (subst (λ (z : Definitions). length z.names ≡ length z.bodies) same c.names.ensures.as_many) c.in_ok-bind.ensures
