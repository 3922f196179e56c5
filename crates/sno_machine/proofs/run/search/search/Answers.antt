-- The starts together reach the outcome, and take its trials.
use Rattle.std.proofs.Common.{◌≡◌, ap, sym, ◌∙◌, arith}
use Rattle.std.proofs.lemmas.Result.{err_from_is_err_and}
use Rattle.std.specs.List.{flat_map}
use Rattle.sno_pattern.specs.Tree.{tree_of}
use Rattle.sno_pattern.specs.Outcome.{starts_from, tried_from}
use Rattle.sno_machine.specs.Endings.{found_of}
use Rattle.sno_machine.proofs.StartLaws.{outcome_by, trials_of}
use Rattle.sno_machine.proofs.EndingLaws.{overspent_trials, within_limit}
use Rattle.sno_machine.proofs.run.search.search.Goals as goal

pub returns-in_err-hit-clause-refused : goal.returns-in_err-hit-clause-refused
returns-in_err-hit-clause-refused c =
    let e = err_from_is_err_and c.from_residual.result c.from_residual.ensures.1 in
    let t = c.args.text.now in
    let bodies = c.args.code.now.rules.now.bodies in
    let p = tree_of c.args.code.now.pattern.now in
    let k = c.depth-most.result in
    let r = c.new-progress.result in
    let limit = ap (λ z. z.limit) c.new-progress.ensures in
    let all = trials_of t bodies p c.args.anchored c.args.from k r c.depth-most.ensures.enough (ap (λ z. z.trials) c.new-progress.ensures) in
    rw (e.1, e.2) (λ is. let more = overspent_trials r (flat_map (tried_from t bodies k p) (starts_from t c.args.anchored c.args.from)) c.in_err-hit.field-0.0 c.in_err-hit.ensures.refused is in omega (arith, limit, all, more))

pub returns-clause-found : goal.returns-clause-found
returns-clause-found c =
    let t = c.args.text.now in
    let bodies = c.args.code.now.rules.now.bodies in
    let p = tree_of c.args.code.now.pattern.now in
    let k = c.depth-most.result in
    let r = c.new-progress.result in
    let same = c.in_ok-hit.ensures.found in
    c.in_ok-search.ensures.found ∙ ap found_of (sym same) ∙ sym (outcome_by t bodies p c.args.anchored c.args.from k r c.depth-most.ensures.enough (ap (λ z. z.sets) c.new-progress.ensures))

pub returns-clause-counted : goal.returns-clause-counted
returns-clause-counted c =
    let t = c.args.text.now in
    let bodies = c.args.code.now.rules.now.bodies in
    let p = tree_of c.args.code.now.pattern.now in
    let k = c.depth-most.result in
    let r = c.new-progress.result in
    let same = c.in_ok-hit.ensures.found in
    c.in_ok-search.ensures.counted ∙ ap (λ z. z.0.trials) (sym same) ∙ sym (trials_of t bodies p c.args.anchored c.args.from k r c.depth-most.ensures.enough (ap (λ z. z.trials) c.new-progress.ensures))

pub returns-clause-within : goal.returns-clause-within
returns-clause-within c =
    let t = c.args.text.now in
    let bodies = c.args.code.now.rules.now.bodies in
    let p = tree_of c.args.code.now.pattern.now in
    let k = c.depth-most.result in
    let r = c.new-progress.result in
    let limit = ap (λ z. z.limit) c.new-progress.ensures in
    let same = c.in_ok-hit.ensures.found in
    let spent = c.in_ok-search.ensures.counted ∙ ap (λ z. z.0.trials) (sym same) in
    let few = within_limit r c.try_all.new.progress (flat_map (tried_from t bodies k p) (starts_from t c.args.anchored c.args.from)) c.in_ok-hit.hit same c.report.ensures.within in
    omega (arith, limit, spent, few)
