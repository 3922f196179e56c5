-- What is shown of a search from cursor 0 is shown of a match, so the laws of what is shown hold of it.
use Rattle.sno_pattern.specs.Tree.{tree_of}
use Rattle.sno_trace.proofs.Starts.{shown_from_first}
use Rattle.sno_trace.proofs.tracing.trace.Goals as goal

pub returns-clause-shown : goal.returns-clause-shown
returns-clause-shown c = shown_from_first c.args.text.now c.args.rules.now.bodies (tree_of c.args.pattern.now) c.args.anchored c.args.limit _ c.in_ok-trace.ensures.shown

pub returns-clause-whole : goal.returns-clause-whole
returns-clause-whole c =
    λ few. c.what_is_shown_is_the_match.ensures c.args.text.now c.args.rules.now.bodies (tree_of c.args.pattern.now) c.args.anchored c.args.limit _
    (shown_from_first c.args.text.now c.args.rules.now.bodies (tree_of c.args.pattern.now) c.args.anchored c.args.limit _ c.in_ok-trace.ensures.shown) few

pub returns-clause-full : goal.returns-clause-full
returns-clause-full c =
    λ more. c.a_limit_is_used_up.ensures c.args.text.now c.args.rules.now.bodies (tree_of c.args.pattern.now) c.args.anchored c.args.limit _
    (shown_from_first c.args.text.now c.args.rules.now.bodies (tree_of c.args.pattern.now) c.args.anchored c.args.limit _ c.in_ok-trace.ensures.shown) more

pub returns-clause-front : goal.returns-clause-front
returns-clause-front c =
    c.what_is_shown_begins_the_match.ensures c.args.text.now c.args.rules.now.bodies (tree_of c.args.pattern.now) c.args.anchored c.args.limit _
    (shown_from_first c.args.text.now c.args.rules.now.bodies (tree_of c.args.pattern.now) c.args.anchored c.args.limit _ c.in_ok-trace.ensures.shown)
