-- The starts are tried one after the other.
use Rattle.std.proofs.Common.{◌+◌, ap, sym, ◌∙◌, arith, Some, None}
use Rattle.std.specs.List.{flat_map}
use Rattle.sno_pattern.specs.Tree.{tree_of}
use Rattle.sno_pattern.specs.Outcome.{tried_from}
use Rattle.sno_eval.specs.Endings.{found_after}
use Rattle.sno_eval.proofs.Ranges.{up_to}
use Rattle.sno_eval.proofs.StartLaws.{begun, start_tried, sets_are}
use Rattle.sno_eval.proofs.starts.search.Goals as goal

pub loop-start-init : goal.loop-start-init
loop-start-init c =
    begun c.args.text.now c.args.rules.now.bodies (tree_of c.args.pattern.now) c.args.anchored c.args.from c.depth-most.result c.last_start-last.result _ c.depth-most.ensures c.last_start-last.ensures.starts c.new-sets.ensures.items

pub returns-in-Success : goal.returns-in-Success
returns-in-Success c =
    let others = flat_map (tried_from c.args.text.now c.args.rules.now.bodies c.depth-most.result (tree_of c.args.pattern.now)) (up_to (c.loop-start.start + 1) c.last_start-last.result) in
    sym
    (
    c.loop-start.invariant
    ∙ start_tried c.args.text.now c.args.rules.now.bodies c.depth-most.result (tree_of c.args.pattern.now) c.loop-start.start c.last_start-last.result _ c.first_ending.new.sets.items _ _ c.in_ok-hit.field-0 (omega arith) c.deref.ensures.value c.in_ok-events.ensures c.in_ok-hit.ensures
    ∙ ap (λ e. found_after e c.first_ending.new.sets.items others) c.in-Success.is
    ∙ sets_are c.of.result _ (Some c.in-Success.hit) c.of.ensures
    )

pub returns-in-Failure : goal.returns-in-Failure
returns-in-Failure c =
    let others = flat_map (tried_from c.args.text.now c.args.rules.now.bodies c.depth-most.result (tree_of c.args.pattern.now)) (up_to (c.loop-start.start + 1) c.last_start-last.result) in
    sym
    (
    c.loop-start.invariant
    ∙ start_tried c.args.text.now c.args.rules.now.bodies c.depth-most.result (tree_of c.args.pattern.now) c.loop-start.start c.last_start-last.result _ c.first_ending.new.sets.items _ _ c.in_ok-hit.field-0 (omega arith) c.deref.ensures.value c.in_ok-events.ensures c.in_ok-hit.ensures
    ∙ ap (λ e. found_after e c.first_ending.new.sets.items others) c.in-Failure.is
    ∙ sets_are c.of-in-Failure.result _ None c.of-in-Failure.ensures
    )

pub loop-start-preserved : goal.loop-start-preserved
loop-start-preserved c =
    let others = flat_map (tried_from c.args.text.now c.args.rules.now.bodies c.depth-most.result (tree_of c.args.pattern.now)) (up_to (c.loop-start.start + 1) c.last_start-last.result) in
    c.loop-start.invariant
    ∙ start_tried c.args.text.now c.args.rules.now.bodies c.depth-most.result (tree_of c.args.pattern.now) c.loop-start.start c.last_start-last.result _ c.first_ending.new.sets.items _ _ c.in_ok-hit.field-0 (omega arith) c.deref.ensures.value c.in_ok-events.ensures c.in_ok-hit.ensures
    ∙ ap (λ e. found_after e c.first_ending.new.sets.items others) c.in-Open.is
