-- Each step says which of the cases of rows applies.
use Rattle.std.proofs.Common.{ap, sym, ◌∙◌, true}
use Rattle.sno_pattern.specs.Definitions.{Definitions}
use Rattle.sno_document.specs.Rules.{AreRules, rules_with}
use Rattle.sno_document.specs.DocumentRows.{rows_seen}
use Rattle.sno_document.specs.Drafts.{drafted_seen}
use Rattle.sno_document.proofs.FaultLemmas.{rows_err, drafted_from}
use Rattle.sno_document.proofs.rules.of_rows.Goals as goal

pub returns-in_err-drafted-clause-rules : goal.returns-in_err-drafted-clause-rules
returns-in_err-drafted-clause-rules c =
    rows_err _ _ _ _ c.from_residual.ensures.1
    (λ m. AreRules.no_definitions (drafted_from true c.args.rows.now c.deref.result.now _ c.deref.ensures.value (c.in_err-drafted.ensures.definitions m)))

pub returns-in_err-admitted-clause-rules : goal.returns-in_err-admitted-clause-rules
returns-in_err-admitted-clause-rules c =
    rows_err _ _ _ _ c.from_residual-in_err-admitted.ensures.1
    (λ m. AreRules.not_admitted (drafted_seen c.in_ok-drafted.drafted) (drafted_from true c.args.rows.now c.deref.result.now _ c.deref.ensures.value c.in_ok-drafted.ensures.definitions) (c.in_err-admitted.ensures m))

pub returns-in_err-rules-clause-rules : goal.returns-in_err-rules-clause-rules
returns-in_err-rules-clause-rules c =
    rows_err _ _ _ _ c.from_residual-in_err-rules.ensures.1
    (λ m. AreRules.whole (drafted_seen c.in_ok-drafted.drafted) (drafted_from true c.args.rows.now c.deref.result.now _ c.deref.ensures.value c.in_ok-drafted.ensures.definitions) c.in_ok-admitted.ensures.1
    (ap (λ (r : Definitions). rules_with r c.args.mode (rows_seen c.args.rows.now)) (sym c.in_ok-admitted.ensures.0) ∙ c.in_err-rules.ensures.rules m))

pub returns-clause-rules : goal.returns-clause-rules
returns-clause-rules c =
    AreRules.whole (drafted_seen c.in_ok-drafted.drafted) (drafted_from true c.args.rows.now c.deref.result.now _ c.deref.ensures.value c.in_ok-drafted.ensures.definitions) c.in_ok-admitted.ensures.1
    (ap (λ (r : Definitions). rules_with r c.args.mode (rows_seen c.args.rows.now)) (sym c.in_ok-admitted.ensures.0) ∙ c.in_ok-rules.ensures.rules)
