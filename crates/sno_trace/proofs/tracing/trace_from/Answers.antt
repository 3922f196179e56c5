-- What is shown of a search.
use Rattle.sno_pattern.specs.Tree.{tree_of}
use Rattle.sno_trace.proofs.Whole.{shown_is_the_search, shown_begins_the_search, search_is_full}
use Rattle.sno_trace.proofs.tracing.trace_from.Goals as goal

pub returns-clause-whole : goal.returns-clause-whole
returns-clause-whole c =
    λ few. shown_is_the_search c.args.search.text.now c.args.search.rules.now.bodies (tree_of c.args.search.pattern.now) c.args.search.anchored c.args.search.from c.args.limit _ c.in_ok-events.ensures.shown few

pub returns-clause-full : goal.returns-clause-full
returns-clause-full c =
    λ more. search_is_full c.args.search.text.now c.args.search.rules.now.bodies (tree_of c.args.search.pattern.now) c.args.search.anchored c.args.search.from c.args.limit _ c.in_ok-events.ensures.shown more

pub returns-clause-front : goal.returns-clause-front
returns-clause-front c =
    shown_begins_the_search c.args.search.text.now c.args.search.rules.now.bodies (tree_of c.args.search.pattern.now) c.args.search.anchored c.args.search.from c.args.limit _ c.in_ok-events.ensures.shown
