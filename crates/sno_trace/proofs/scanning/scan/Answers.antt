-- The starts are tried one after the other.
use Rattle.std.proofs.Common.{◌-◌, ap, sym, subst, ◌∙◌, arith}
use Rattle.sno_pattern.specs.Tree.{tree_of}
use Rattle.sno_trace.specs.declared.faults.TheConstants.{MAX_DEPTH}
use Rattle.sno_trace.specs.Noted.{noted}
use Rattle.sno_trace.specs.Steps.{trials_of}
use Rattle.sno_trace.proofs.NotedLaws.{few_trials}
use Rattle.sno_trace.specs.Depth.{Nests}
use Rattle.sno_trace.proofs.Nesting.{passed_on, in_starts}
use Rattle.sno_trace.proofs.Starts.{next_start, final_start, no_start, all_starts}
use Rattle.sno_trace.proofs.scanning.scan.Goals as goal

pub loop-start-init : goal.loop-start-init
loop-start-init c =
    all_starts c.args.search.text.now c.args.search.rules.now.bodies c.enough_depth.result (tree_of c.args.search.pattern.now) c.args.search.anchored c.args.search.from c.args.limit c.last_start-last.result _ c.new-all.ensures.items c.enough_depth.ensures c.last_start-last.ensures.starts

pub returns-then-branch-clause-shown : goal.returns-then-branch-clause-shown
returns-then-branch-clause-shown c =
    final_start c.args.search.text.now c.args.search.rules.now.bodies c.enough_depth.result (tree_of c.args.search.pattern.now) _ c.loop-start.left c.loop-start.start c.last_start-last.result _ _ _ (omega arith)
    (c.deref.ensures.value ∙ c.in_ok-events.ensures.done) (sym c.if-branch.true ∙ c.in_ok-add_start.ensures.ended) c.in_ok-add_start.ensures.added c.loop-start.invariant

pub overflow_sub-left : goal.overflow_sub-left
overflow_sub-left c =
    omega (arith, few_trials c.loop-start.left (noted c.args.search.text.now c.args.search.rules.now.bodies c.enough_depth.result (tree_of c.args.search.pattern.now) c.loop-start.start), c.count_trials-left.ensures.value, ap trials_of (c.deref-in-loop-start.ensures.value ∙ c.in_ok-events.ensures.done))

pub loop-start-preserved : goal.loop-start-preserved
loop-start-preserved c =
    next_start c.args.search.text.now c.args.search.rules.now.bodies c.enough_depth.result (tree_of c.args.search.pattern.now) _ c.loop-start.left (c.loop-start.left - c.count_trials-left.result) c.loop-start.start c.last_start-last.result _ _ _ (omega arith)
    (c.deref.ensures.value ∙ c.in_ok-events.ensures.done) (sym c.if-branch.false ∙ c.in_ok-add_start.ensures.ended)
    (ap (λ j. c.loop-start.left - j) (c.count_trials-left.ensures.value ∙ ap trials_of (c.deref-in-loop-start.ensures.value ∙ sym c.deref.ensures.value)))
    c.in_ok-add_start.ensures.added c.loop-start.invariant

pub returns-clause-shown : goal.returns-clause-shown
returns-clause-shown c = no_start c.args.search.text.now c.args.search.rules.now.bodies c.enough_depth.result (tree_of c.args.search.pattern.now) _ c.loop-start.left c.loop-start.start c.last_start-last.result _ (omega arith) c.loop-start.invariant

pub returns-in_err-events-clause-deep : goal.returns-in_err-events-clause-deep
returns-in_err-events-clause-deep c =
    passed_on _ _ _ c.from_residual.ensures.1 (λ is. (
      c.loop-start.start,
      in_starts c.loop-start.start c.args.search.from c.last_start-last.result _ (omega arith) (omega arith) c.last_start-last.ensures.starts,
      subst (λ k. Nests c.args.search.text.now c.args.search.rules.now.bodies MAX_DEPTH k (tree_of c.args.search.pattern.now) c.loop-start.start) c.enough_depth.ensures (c.in_err-events.ensures.deep is),
    ))
