-- A search from cursor 0 takes the trials of the match.
use Rattle.std.proofs.Common.{◌≡◌, sym, ◌∙◌}
use Rattle.sno_pattern.specs.Tree.{tree_of}
use Rattle.sno_pattern.specs.Outcome.{trials}
use Rattle.sno_eval.proofs.counting.trials.Goals as goal

counted : (c : goal.In_ok-count) → c.in_ok-count.count ≡ trials c.args.text.now c.args.rules.now.bodies (tree_of c.args.pattern.now) c.args.anchored
counted c = c.in_ok-count.ensures ∙ (c.a_search_from_the_first_cursor_is_a_match.ensures c.args.text.now c.args.rules.now.bodies (tree_of c.args.pattern.now) c.args.anchored).1

pub returns-clause-count : goal.returns-clause-count
returns-clause-count c = counted c

pub returns-clause-deep : goal.returns-clause-deep
returns-clause-deep c = λ k enough.
    counted c ∙ sym (c.a_greater_depth_takes_no_more_trials.ensures c.args.text.now c.args.rules.now.bodies c.bodies.ensures.guarded k (tree_of c.args.pattern.now) c.args.anchored enough)
