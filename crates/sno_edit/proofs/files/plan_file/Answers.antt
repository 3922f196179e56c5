-- Why a file is not edited, and that UTF-8 stays UTF-8.
use Rattle.std.proofs.Common.{◌≡◌, ◌≢◌, List, ℕ, Ok, Err, ap, subst, sym, ◌∙◌}
use Rattle.std.specs.Arc.{arc_value}
use Rattle.sno_pattern.specs.Texts.{byte_text_of}
use Rattle.sno_edit.specs.Edits.{edited, edited_seen}
use Rattle.sno_edit.specs.Rules.{rules_seen}
use Rattle.sno_edit.proofs.Utf8Lemmas.{edited_utf8, refusal_cause}
use Rattle.sno_edit.proofs.files.plan_file.Goals as goal

pub returns-in-Ok-clause-utf8 : goal.returns-in-Ok-clause-utf8
returns-in-Ok-clause-utf8 g c =
    edited_utf8 (rules_seen c.args.rules.now) c.args.path.now (arc_value c.in_ok-before.before) (edited_seen c.in-Ok.edited)
    (subst (λ t. edited (rules_seen c.args.rules.now) c.args.path.now t ≡ Ok (edited_seen c.in-Ok.edited)) c.in_ok-text.ensures c.in-Ok.ensures)

pub returns-in-Err-clause-cause : goal.returns-in-Err-clause-cause
returns-in-Err-clause-cause g c =
    refusal_cause (rules_seen c.args.rules.now) c.args.path.now (g.F.Folder.holds c.args.folder.now) (arc_value c.in_ok-before.before) c.in-Err.fault
    (subst (λ t. g.F.Folder.holds c.args.folder.now c.args.path.now t) (sym c.in_ok-before.ensures.same) c.in_ok-bytes.ensures.bytes)
    (subst (λ t. byte_text_of t ≡ Ok (arc_value c.in_ok-before.before)) (sym c.in_ok-before.ensures.same) c.in_ok-before.ensures.text)
    (λ other. subst (λ t. edited (rules_seen c.args.rules.now) c.args.path.now t ≡ Err c.in-Err.fault) c.in_ok-text.ensures (c.in-Err.ensures other))
