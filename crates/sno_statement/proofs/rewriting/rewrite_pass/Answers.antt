-- The matches of the pass decide.
use Rattle.std.proofs.Common.{◌≡◌, ◌≤◌, ◌<◌, ◌+◌, ℕ, List, length, Some, ap, sym, subst, ◌∙◌, arith}
use Rattle.std.proofs.lemmas.Result.{err_from_is_err_and}
use Rattle.sno_pattern.specs.declared.byte_texts.TheConstants.{MAX_BYTES}
use Rattle.sno_statement.specs.Statement.{with_limit}
use Rattle.sno_statement.specs.Passes.{Pass, matches_left, replaced, trials_together}
use Rattle.sno_statement.specs.Rewriting.{GivesRewritten, IsReplaced}
use Rattle.sno_statement.proofs.RewritingLaws.{begun_few, counted_all, over_begun, refused_rewriting, replaced_all, within_begun}
use Rattle.sno_statement.proofs.rewriting.rewrite_pass.Goals as goal

pub returns-in_err-matches-in-None-clause-rewritten : goal.returns-in_err-matches-in-None-clause-rewritten
returns-in_err-matches-in-None-clause-rewritten c =
    let s = with_limit c.args.statement.now c.args.trials in
    let t = c.args.subject.now in
    let e = err_from_is_err_and c.from_residual.result c.from_residual.ensures.1 in
    rw (e.1, e.2)
    (refused_rewriting s t c.in_err-matches-in-None.field-0.0
    (λ is. over_begun s t (subst (λ (z : Pass). z.statement.limit < trials_together z) c.requires (c.in_err-matches-in-None.ensures.refused is))) c.in_err-matches-in-None.ensures.never)

pub returns-in_ok-matches-in-None-clause-rewritten : goal.returns-in_ok-matches-in-None-clause-rewritten
returns-in_ok-matches-in-None-clause-rewritten c =
    let s = with_limit c.args.statement.now c.args.trials in
    let t = c.args.subject.now in
    let few = within_begun s t (subst (λ (z : Pass). trials_together z ≤ z.statement.limit) c.requires c.in_ok-matches-in-None.ensures.within) in
    sym (counted_all s t c.in_ok-matches-in-None.matches (sym c.in-None.ensures) few (c.in_ok-matches-in-None.ensures.counted ∙ ap (λ (z : Pass). length (matches_left z)) c.requires))

pub replace_left-requires-clause-few : goal.replace_left-requires-clause-few
replace_left-requires-clause-few c = subst (λ (z : Pass). length (matches_left z) ≤ MAX_BYTES + 1) (sym c.requires) (begun_few (with_limit c.args.statement.now c.args.trials) c.args.subject.now c.bytes-bytes.ensures.short)

pub returns-in_err-matches-in-Some-clause-rewritten : goal.returns-in_err-matches-in-Some-clause-rewritten
returns-in_err-matches-in-Some-clause-rewritten c =
    let s = with_limit c.args.statement.now c.args.trials in
    let t = c.args.subject.now in
    let e = err_from_is_err_and c.from_residual-in_err-matches-in-Some.result c.from_residual-in_err-matches-in-Some.ensures.1 in
    rw (e.1, e.2)
    (refused_rewriting s t c.in_err-matches-in-Some.field-0.0
    (λ is. over_begun s t (subst (λ (z : Pass). z.statement.limit < trials_together z) c.requires (c.in_err-matches-in-Some.ensures.refused is))) c.in_err-matches-in-Some.ensures.never)

pub returns-in_ok-matches-in-Some-clause-rewritten : goal.returns-in_ok-matches-in-Some-clause-rewritten
returns-in_ok-matches-in-Some-clause-rewritten c =
    let s = with_limit c.args.statement.now c.args.trials in
    let t = c.args.subject.now in
    let parts = c.in-Some.object.now in
    let text = c.in_ok-matches-in-Some.text in
    let some : s.object ≡ Some parts = sym c.in-Some.ensures in
    let few = within_begun s t (subst (λ (z : Pass). trials_together z ≤ z.statement.limit) c.requires c.in_ok-matches-in-Some.ensures.within) in
    let counted = c.in_ok-matches-in-Some.ensures.counted ∙ ap (λ (z : Pass). length (matches_left z)) c.requires in
    let here = subst (λ (z : List ℕ). IsReplaced (replaced parts z 0 (matches_left c.args.pass.now)) text) c.bytes-bytes.ensures.value c.in_ok-matches-in-Some.ensures.replaced in
    let made = subst (λ (z : Pass). IsReplaced (replaced parts t 0 (matches_left z)) text) c.requires here in
    subst (GivesRewritten c.finished.result) (replaced_all s t parts c.in_ok-matches-in-Some.matches text some few counted made) c.finished.ensures.rewritten

pub returns-in_ok-matches-in-None-clause-few : goal.returns-in_ok-matches-in-None-clause-few
returns-in_ok-matches-in-None-clause-few c =
    let few = begun_few (with_limit c.args.statement.now c.args.trials) c.args.subject.now c.bytes-bytes.ensures.short in
    let here = c.in_ok-matches-in-None.ensures.counted ∙ ap (λ (z : Pass). length (matches_left z)) c.requires in
    omega (arith, few, here)

pub finished-requires-clause-few : goal.finished-requires-clause-few
finished-requires-clause-few c =
    let few = begun_few (with_limit c.args.statement.now c.args.trials) c.args.subject.now c.bytes-bytes.ensures.short in
    let here = c.in_ok-matches-in-Some.ensures.counted ∙ ap (λ (z : Pass). length (matches_left z)) c.requires in
    omega (arith, few, here)
