-- Each run that is passed over costs two trials for each of its starts.
use Rattle.std.proofs.Common.{◌<◌, ◌≤◌, ℕ, List, length, ap, sym, subst, ◌∙◌, arith}
use Rattle.std.proofs.lemmas.Result.{err_from_is_err_and}
use Rattle.std.specs.List.{flat_map}
use Rattle.sno_pattern.specs.Outcome.{tried_from}
use Rattle.sno_machine.specs.Progress.{spend}
use Rattle.sno_machine.specs.Beginnings.{EndsInVain}
use Rattle.sno_machine.specs.Endings.{match_by, up_to}
use Rattle.sno_machine.specs.declared.starts.run_starts.RunStart.{RunStart}
use Rattle.sno_machine.proofs.BeginningLaws.{run_passed}
use Rattle.sno_machine.proofs.EndingLaws.{over_limit, overspent, overspent_trials, past_limit}
use Rattle.sno_machine.proofs.starts.passing.pass_runs.Goals as goal

-- what a run that ends in vain is known by
abbrev EndsFrom : List ℕ → RunStart → ℕ → ℕ → Type 0
EndsFrom t run c e = (c < e) × (e ≤ length t) × EndsInVain t run c e

pub returns-in_err-from-clause-refused : goal.returns-in_err-from-clause-refused
returns-in_err-from-clause-refused c = λ bodies p k deep are run.
    let t = c.args.text.now in
    let r = c.args.progress.now in
    let now = c.loop-from.progress in
    let last = c.args.last in
    let all = flat_map (tried_from t bodies k p) (up_to c.args.start last) in
    let rest = flat_map (tried_from t bodies k p) (up_to c.loop-from.from last) in
    let fault = c.in_err-from.field-0.0 in
    let e = err_from_is_err_and c.from_residual.result c.from_residual.ensures.1 in
    let over = c.in_err-from.ensures.refused bodies p k deep are in
    rw (e.1, e.2) (overspent r all fault (λ is. over_limit r now all rest (c.loop-from.invariant.passed bodies p k deep are run) (overspent_trials now rest fault over is)))

pub returns-then-not-try_spend-clause-refused : goal.returns-then-not-try_spend-clause-refused
returns-then-not-try_spend-clause-refused c = λ bodies p k deep are run.
    let t = c.args.text.now in
    let r = c.args.progress.now in
    let now = c.first_start.new.progress in
    let from = c.in_ok-from.from in
    let last = c.args.last in
    let next = c.min-end.result in
    let vain = subst (λ z. EndsFrom z c.args.run from c.in-Some.end) c.of-subject.ensures c.in-Some.ensures in
    let first = c.in_ok-from.ensures.passed bodies p k deep are in
    let all = flat_map (tried_from t bodies k p) (up_to c.args.start last) in
    let rest = flat_map (tried_from t bodies k p) (up_to next last) in
    let passed =
    c.loop-from.invariant.passed bodies p k deep are run
    ∙ first
    ∙ run_passed bodies p c.args.run run t k from c.in-Some.end next last now c.price.result c.price.ensures
    (omega (arith, c.min-end.ensures, vain.0, c.if-from-last.false)) (omega (arith, c.min-end.ensures)) (omega (arith, c.min-end.ensures)) vain.2 in
    past_limit r (spend c.price.result now) all rest passed (c.try_spend.ensures.refused c.if-not-try_spend.true)

pub loop-from-preserved : goal.loop-from-preserved
loop-from-preserved c =
    let t = c.args.text.now in
    let now = c.first_start.new.progress in
    let from = c.in_ok-from.from in
    let last = c.args.last in
    let next = c.min-end.result in
    let vain = subst (λ z. EndsFrom z c.args.run from c.in-Some.end) c.of-subject.ensures c.in-Some.ensures in
    record {
      inside = omega (arith, c.loop-from.invariant.inside, c.in_ok-from.ensures.inside.0, c.min-end.ensures, vain.0, c.if-from-last.false);
      within = omega (arith, c.min-end.ensures);
      passed = λ bodies p k deep are run.
          c.loop-from.invariant.passed bodies p k deep are run
          ∙ c.in_ok-from.ensures.passed bodies p k deep are
          ∙ run_passed bodies p c.args.run run t k from c.in-Some.end next last now c.price.result c.price.ensures
          (omega (arith, c.min-end.ensures, vain.0, c.if-from-last.false)) (omega (arith, c.min-end.ensures)) (omega (arith, c.min-end.ensures)) vain.2
          ∙ ap (λ z. match_by z (flat_map (tried_from t bodies k p) (up_to next last))) (sym (c.try_spend.ensures.spent c.if-not-try_spend.false));
    }
