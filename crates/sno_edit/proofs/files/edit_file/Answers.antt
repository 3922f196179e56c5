-- A write that was refused has its cause.
use Rattle.std.proofs.Common.{◌≡◌, ◌∙◌, sym}
use Rattle.std.specs.Arc.{arc_value}
use Rattle.sno_edit.specs.Rules.{rules_seen}
use Rattle.sno_edit.proofs.BatchLemmas.{differs, write_refused}
use Rattle.sno_edit.proofs.files.edit_file.Goals as goal

pub returns-in_err-replace : goal.returns-in_err-replace
returns-in_err-replace g c =
    let plan = c.in_ok-plan.plan in
    write_refused (rules_seen c.args.rules.now) c.args.path.now (g.F.Folder.holds c.args.folder.now) (g.F.Folder.holds c.replace.new.self) _
    c.in_err-replace.field-0.0 (arc_value plan.before) (arc_value plan.after) plan.matches
    c.from_residual-in_err-replace.ensures.1 c.in_ok-plan.ensures.planned (differs (arc_value plan.before) (arc_value plan.after) (sym c.if-changed.true ∙ c.changes-changed.ensures))
    c.in_err-replace.ensures.kept
