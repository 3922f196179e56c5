-- Each step says which of the cases of rules applies.
use Rattle.sno_document.specs.Rules.{IsRules}
use Rattle.sno_document.specs.Trees.{tree_seen}
use Rattle.sno_document.specs.DocumentRows.{rows_seen}
use Rattle.sno_document.proofs.FaultLemmas.{rules_err}
use Rattle.sno_document.proofs.rules.read_rules.Goals as goal

pub returns-in_err-value-clause-rules : goal.returns-in_err-value-clause-rules
returns-in_err-value-clause-rules c = rules_err _ _ _ _ c.from_residual.ensures.1 (λ m. IsRules.no_value (c.in_err-value.ensures m))

pub returns-in_err-rows-clause-rules : goal.returns-in_err-rows-clause-rules
returns-in_err-rows-clause-rules c = rules_err _ _ _ _ c.from_residual-in_err-rows.ensures.1 (λ m. IsRules.no_rows _ c.in_ok-value.ensures (c.in_err-rows.ensures m))

pub returns-in_err-rules-clause-rules : goal.returns-in_err-rules-clause-rules
returns-in_err-rules-clause-rules c =
    rules_err _ _ _ _ c.from_residual-in_err-rules.ensures.1
    (λ m. IsRules.of_rows (tree_seen c.in_ok-value.value) (rows_seen c.in_ok-rows.rows) c.in_ok-value.ensures c.in_ok-rows.ensures (c.in_err-rules.ensures.rules m))

pub returns-clause-rules : goal.returns-clause-rules
returns-clause-rules c = IsRules.of_rows (tree_seen c.in_ok-value.value) (rows_seen c.in_ok-rows.rows) c.in_ok-value.ensures c.in_ok-rows.ensures c.in_ok-rules.ensures.rules
