-- What is spent is the cost of the starts that are passed over.
use Rattle.std.proofs.Common.{◌-◌, ◌*◌, ap, sym, ◌∙◌}
use Rattle.std.specs.List.{flat_map}
use Rattle.sno_pattern.specs.Outcome.{tried_from}
use Rattle.sno_machine.specs.Progress.{spend}
use Rattle.sno_machine.specs.Endings.{match_by, up_to}
use Rattle.sno_machine.proofs.BeginningLaws.{passed_over}
use Rattle.sno_machine.proofs.EndingLaws.{past_limit}
use Rattle.sno_machine.proofs.starts.passing.pass_over.Goals as goal

pub returns-then-not-try_spend-clause-refused : goal.returns-then-not-try_spend-clause-refused
returns-then-not-try_spend-clause-refused c = λ bodies p k deep are.
    let t = c.args.text.now in
    let r = c.args.progress.now in
    let start = c.args.start in
    let begin = c.first_beginning-begin.result in
    let found = c.first_beginning-begin.ensures in
    let spent = c.price.ensures ∙ ap (λ z. (begin - start) * z) c.cost.ensures in
    let passed = passed_over bodies p c.args.beginnings.now are t k deep start begin c.args.last r c.price.result spent found.inside.0 found.inside.1 found.passed in
    past_limit r (spend c.price.result r) (flat_map (tried_from t bodies k p) (up_to start c.args.last)) (flat_map (tried_from t bodies k p) (up_to begin c.args.last)) passed
    (c.try_spend.ensures.refused c.if-not-try_spend.true)

pub returns-clause-passed : goal.returns-clause-passed
returns-clause-passed c = λ bodies p k deep are.
    let t = c.args.text.now in
    let r = c.args.progress.now in
    let start = c.args.start in
    let begin = c.first_beginning-begin.result in
    let found = c.first_beginning-begin.ensures in
    let spent = c.price.ensures ∙ ap (λ z. (begin - start) * z) c.cost.ensures in
    let passed = passed_over bodies p c.args.beginnings.now are t k deep start begin c.args.last r c.price.result spent found.inside.0 found.inside.1 found.passed in
    passed ∙ ap (λ z. match_by z (flat_map (tried_from t bodies k p) (up_to begin c.args.last))) (sym (c.try_spend.ensures.spent c.if-not-try_spend.false))
