-- The trials of all events are those of the search.
use Rattle.std.proofs.Common.{◌≡◌, ap, sym, ◌∙◌}
use Rattle.sno_pattern.specs.Tree.{tree_of}
use Rattle.sno_eval.specs.Steps.{trials_of}
use Rattle.sno_eval.proofs.TrialLaws.{trials_are}
use Rattle.sno_eval.proofs.counting.trials_from.Goals as goal

pub returns : goal.returns
returns c =
    c.count_trials.ensures
    ∙ ap trials_of (c.deref.ensures.value ∙ c.in_ok-events.ensures)
    ∙ sym (trials_are c.args.text.now c.args.rules.now.bodies (tree_of c.args.pattern.now) c.args.anchored c.args.from)
