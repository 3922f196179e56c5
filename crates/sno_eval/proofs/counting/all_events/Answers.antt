-- The starts are tried one after the other.
use Rattle.std.proofs.Common.{◌≡◌, suc, ◌+◌, ◌-◌, ◌++◌, ap, sym, ◌∙◌, append_assoc, arith}
use Rattle.std.proofs.lemmas.List.{append-nil}
use Rattle.std.specs.List.{flat_map, range_with_len}
use Rattle.sno_pattern.specs.Tree.{tree_of}
use Rattle.sno_pattern.specs.Results.{results}
use Rattle.sno_pattern.specs.Outcome.{starts_from}
use Rattle.sno_eval.proofs.Ranges.{up_to, up_to_more}
use Rattle.sno_eval.proofs.counting.all_events.Goals as goal

pub loop-start-init : goal.loop-start-init
loop-start-init c =
    let all = flat_map (results c.args.text.now c.args.rules.now.bodies c.depth-most.result (tree_of c.args.pattern.now)) (up_to c.args.from c.last_start-last.result) in
    ap (λ l. l ++ all) c.new-all.ensures.items

pub loop-start-preserved : goal.loop-start-preserved
loop-start-preserved c =
    let F = results c.args.text.now c.args.rules.now.bodies c.depth-most.result (tree_of c.args.pattern.now) in
    let rest = flat_map F (up_to (c.loop-start.start + 1) c.last_start-last.result) in
    ap (λ l. l ++ rest) (c.in_ok-append.ensures.items ∙ ap (λ l. c.loop-start.all.items ++ l) c.in_ok-events.ensures)
    ∙ append_assoc c.loop-start.all.items (F c.loop-start.start) rest
    ∙ sym (ap (λ s. c.loop-start.all.items ++ flat_map F s) (up_to_more c.loop-start.start c.last_start-last.result (omega arith)))
    ∙ c.loop-start.invariant

pub returns : goal.returns
returns c =
    let t = c.args.text.now in
    let bodies = c.args.rules.now.bodies in
    let p = tree_of c.args.pattern.now in
    let F = results t bodies c.depth-most.result p in
    let last = c.last_start-last.result in
    let none : suc last - c.loop-start.start ≡ 0 = omega arith in
    sym (append-nil c.loop-start.all.items)
    ∙ sym (ap (λ n. c.loop-start.all.items ++ flat_map F (range_with_len c.loop-start.start n)) none)
    ∙ c.loop-start.invariant
    ∙ ap (flat_map F) c.last_start-last.ensures.starts
    ∙ ap (λ k. flat_map (results t bodies k p) (starts_from t c.args.anchored c.args.from)) c.depth-most.ensures
