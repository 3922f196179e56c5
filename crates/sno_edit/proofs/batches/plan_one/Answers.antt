-- A file that does not change adds no write.
use Rattle.std.proofs.Common.{◌≡◌, List, [], refl, sym, subst, append-nil}
use Rattle.std.specs.Arc.{arc_value}
use Rattle.sno_edit.specs.Batches.{TakesWrite}
use Rattle.sno_edit.specs.declared.folders.NewText.{NewText}
use Rattle.sno_edit.proofs.batches.plan_one.Goals as goal

pub returns-then-not-changed : goal.returns-then-not-changed
returns-then-not-changed g c = (
  [],
  sym (append-nil c.args.writes.now.items),
  (
    arc_value c.in_ok-plan.plan.before,
    arc_value c.in_ok-plan.plan.after,
    c.in_ok-plan.ensures.planned,
    c.changes-changed.ensures,
    subst (λ b. TakesWrite b c.args.path.now (arc_value c.in_ok-plan.plan.after) [] (λ x3. x3 ≡ [])) (sym c.if-not-changed.true) refl,
  ),
)
