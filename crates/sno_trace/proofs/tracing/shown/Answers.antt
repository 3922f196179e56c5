-- What shows no Stop is the same within the limit.
use Rattle.std.proofs.Common.{sym, ◌∙◌, arith}
use Rattle.sno_pattern.specs.Tree.{tree_of}
use Rattle.sno_trace.proofs.Starts.{settled_search}
use Rattle.sno_trace.proofs.tracing.shown.Goals as goal

pub returns-then-not-has_stop-clause-shown : goal.returns-then-not-has_stop-clause-shown
returns-then-not-has_stop-clause-shown c =
    settled_search c.args.search.text.now c.args.search.rules.now.bodies (tree_of c.args.search.pattern.now) c.args.search.anchored c.args.search.from c.loop-most.most c.args.limit _ _ (omega arith) (sym c.if-not-has_stop.true ∙ c.has_stop.ensures) c.deref.ensures.value c.in_ok-events.ensures.shown
