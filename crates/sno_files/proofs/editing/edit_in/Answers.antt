-- What is reported is what was planned, or the cause of a write that was refused.
use Rattle.std.proofs.Common.{◌∙◌, sym, refl}
use Rattle.std.proofs.lemmas.Result.{err_from_is_err_and}
use Rattle.std.specs.Arc.{arc_value}
use Rattle.sno_edit.specs.Rules.{rules_seen}
use Rattle.sno_edit.proofs.BatchLemmas.{differs, unwritten_cause}
use Rattle.sno_files.specs.Editing.{any_bytes}
use Rattle.sno_files.proofs.editing.edit_in.Goals as goal

pub returns-in_err-replace : goal.returns-in_err-replace
returns-in_err-replace g c =
    let plan = c.in_ok-plan.plan in
    let e = err_from_is_err_and c.from_residual-in_err-replace.result c.from_residual-in_err-replace.ensures.1 in
    rw (e.1, e.2)
    (unwritten_cause (rules_seen c.args.rules.now) c.args.path.now any_bytes c.in_err-replace.field-0.0 (arc_value plan.before) (arc_value plan.after) plan.matches
    c.in_ok-plan.ensures.planned (differs (arc_value plan.before) (arc_value plan.after) (sym c.if-changed.true ∙ c.changes-changed.ensures)))

pub returns : goal.returns
returns g c =
    let plan = c.in_ok-plan.plan in (
      record {
        old = arc_value plan.before;
        new = arc_value plan.after;
        edit = c.in_ok-plan.ensures.planned;
        utf8 = c.in_ok-plan.ensures.utf8;
        changed = c.changes-changed.ensures;
        holds = tt;
        others = λ other bytes differs held. tt;
      },
      refl,
    )
