-- Each call has less to do than the one that makes it, and what each adds is what the definitions say.
use Rattle.std.proofs.Common.{◌≡◌, ◌+◌, ◌-◌, [], ◌∷◌, ◌++◌, length, drop, arith, ap, sym, ◌∙◌}
use Rattle.std.proofs.lemmas.Result.{IfOk-weaker}
use Rattle.sno_pattern.specs.Tree.{tree_of}
use Rattle.sno_pattern.specs.Events.{go_on}
use Rattle.sno_pattern.specs.Results.{results, definition_results}
use Rattle.sno_pattern.specs.Laws.{Within}
use Rattle.sno_pattern.specs.declared.events.Event.TheVariants.{Try, Set, End}
use Rattle.std.specs.List.{list_any}
use Rattle.sno_eval.specs.Steps.{is_halt}
use Rattle.sno_eval.proofs.Parts.{inside, both_sides, one_side, named_no_more, named_missing, named_does, round_taken, round_dropped}
use Rattle.sno_eval.proofs.Going.{left_at, go_on_tried, go_on_set, go_on_end, go_on_last, go_on_none, AllEnds-tail, AllEnds-head, next_round, rounds_begun}
use Rattle.sno_eval.proofs.Work.{nodes, work_round, work_body, falls, nodes_of_seq, nodes_of_alt, nodes_of_arbno, nodes_of_cond, nodes_of_imm, some_nodes}
use Rattle.sno_eval.proofs.results.+results.Goals as goal
use Rattle.sno_eval.proofs.results.+results.Goals.{follow-in-Try+in_ok-push-in-Try, follow-in-Set+in_ok-push-in-Set, follow-in-End+in_ok-later-in-End+in_ok-add_after-in-End+else-branch, repeat-in-Try+in_ok-push-in-Try, repeat-in-Set+in_ok-push-in-Set, repeat-in-End+then-c-end+in_ok-later-in-End+in_ok-add_after-in-End+else-branch, repeat-in-End+else-c-end, results-then-not-has_halt+in_ok-others-in-Alt+in_ok-append-in-Alt, results-else-not-has_halt}

pub follow-results-requires : goal.follow-results-requires
follow-results-requires t c = (
  omega (arith, c.decreases, work_round (length c.args.text.now) c.args.rules.now.bodies c.args.depth (nodes (tree_of c.args.pattern.now)) 0 1 (omega arith)),
  (AllEnds-head (Within c.args.text.now 0) _ _ _ _ (left_at c.args.first.now c.loop-event.event-index _ (End c.in-End.end c.in-End.conds) c.loop-event-test.true c.event-item.is c.in-End.is) c.loop-event.invariant.inside).1,
)

pub follow-returns-then-branch : goal.follow-returns-then-branch
follow-returns-then-branch t c =
    go_on_last (results c.args.text.now c.args.rules.now.bodies c.args.depth (tree_of c.args.pattern.now)) _ _ _ _ _ _ _ _ (left_at c.args.first.now c.loop-event.event-index _ (End c.in-End.end c.in-End.conds) c.loop-event-test.true c.event-item.is c.in-End.is) (c.deref.ensures.value ∙ c.in_ok-later-in-End.ensures)
    (sym c.if-branch.true ∙ c.in_ok-add_after-in-End.ensures.halted) c.in_ok-add_after-in-End.ensures.added c.loop-event.invariant.added

pub follow-loop-event-preserved : goal.follow-loop-event-preserved
follow-loop-event-preserved t c =
    elim c.match-event.branch [
      | follow-in-Try+in_ok-push-in-Try w ↦ record {
        added = go_on_tried (results c.args.text.now c.args.rules.now.bodies c.args.depth (tree_of c.args.pattern.now)) _ _ _ _ _ (left_at c.args.first.now c.loop-event.event-index _ Try c.loop-event-test.true c.event-item.is w.in-Try.is) (ap (λ v. v.items) w.all-is ∙ w.in_ok-push-in-Try.ensures.items) c.loop-event.invariant.added;
        inside = AllEnds-tail (Within c.args.text.now 0) _ _ _ (left_at c.args.first.now c.loop-event.event-index _ Try c.loop-event-test.true c.event-item.is w.in-Try.is) c.loop-event.invariant.inside;
      }
      | follow-in-Set+in_ok-push-in-Set w ↦ record {
        added = go_on_set (results c.args.text.now c.args.rules.now.bodies c.args.depth (tree_of c.args.pattern.now)) _ _ _ _ _ _ (left_at c.args.first.now c.loop-event.event-index _ (Set w.in-Set.assign) c.loop-event-test.true c.event-item.is w.in-Set.is) (ap (λ v. v.items) w.all-is ∙ w.in_ok-push-in-Set.ensures.items) c.loop-event.invariant.added;
        inside = AllEnds-tail (Within c.args.text.now 0) _ _ _ (left_at c.args.first.now c.loop-event.event-index _ (Set w.in-Set.assign) c.loop-event-test.true c.event-item.is w.in-Set.is) c.loop-event.invariant.inside;
      }
      | follow-in-End+in_ok-later-in-End+in_ok-add_after-in-End+else-branch w ↦ record {
        added = go_on_end (results c.args.text.now c.args.rules.now.bodies c.args.depth (tree_of c.args.pattern.now)) _ _ _ _ _ _ _ _ (left_at c.args.first.now c.loop-event.event-index _ (End w.in-End.end w.in-End.conds) c.loop-event-test.true c.event-item.is w.in-End.is) (w.deref.ensures.value ∙ w.in_ok-later-in-End.ensures)
            (sym w.if-branch.false ∙ w.in_ok-add_after-in-End.ensures.halted) (ap (λ v. v.items) w.all-is ∙ w.in_ok-add_after-in-End.ensures.added) c.loop-event.invariant.added;
        inside = AllEnds-tail (Within c.args.text.now 0) _ _ _ (left_at c.args.first.now c.loop-event.event-index _ (End w.in-End.end w.in-End.conds) c.loop-event-test.true c.event-item.is w.in-End.is) c.loop-event.invariant.inside;
      }
    ]

pub named-returns-then-depth-eq0 : goal.named-returns-then-depth-eq0
named-returns-then-depth-eq0 t c =
    named_no_more c.args.text.now c.args.rules.now.bodies c.args.depth c.args.number c.args.c _ c.new.ensures.items c.if-depth-eq0.true

pub named-results-requires : goal.named-results-requires
named-results-requires t c = (
  omega (arith, c.decreases, work_body (length c.args.text.now) c.args.rules.now.bodies c.args.depth c.args.number (tree_of c.in-Some.body.now) c.in-Some.ensures (omega arith)),
  c.requires,
)

pub named-returns-in-None : goal.named-returns-in-None
named-returns-in-None t c =
    named_missing c.args.text.now c.args.rules.now.bodies c.args.depth c.args.number c.args.c _ c.new-in-None.ensures.items c.in-None.ensures

pub named-returns-in-Some : goal.named-returns-in-Some
named-returns-in-Some t c =
    IfOk-weaker c.results.result (λ v. v.items ≡ results c.args.text.now c.args.rules.now.bodies (c.args.depth - 1) (tree_of c.in-Some.body.now) c.args.c) (λ v. v.items ≡ definition_results c.args.text.now c.args.rules.now.bodies c.args.depth c.args.number c.args.c)
    (λ v is. named_does c.args.text.now c.args.rules.now.bodies c.args.depth c.args.number c.args.c (tree_of c.in-Some.body.now) _ (omega arith) c.in-Some.ensures is) c.results.ensures

pub repeat-results-requires : goal.repeat-results-requires
repeat-results-requires t c = (
  omega (arith, c.decreases, work_round (length c.args.text.now) c.args.rules.now.bodies c.args.depth (nodes (tree_of c.args.left.part.now)) 0 (c.args.left.count + 1) (omega arith)),
  c.requires,
)

pub repeat-loop-event-init : goal.repeat-loop-event-init
repeat-loop-event-init t c =
    record {
      added = rounds_begun (results c.args.text.now c.args.rules.now.bodies c.args.depth (tree_of c.args.left.part.now)) c.args.left.count c.args.c _ _ (omega arith)
          (c.in_ok-push_end.ensures ∙ ap (λ l. l ++ End c.args.c [] ∷ []) c.new-all.ensures.items) (c.as_slice-event-items.ensures.value ∙ c.in_ok-once.ensures);
      inside = inside c.args.text.now c.args.rules.now.bodies c.args.depth (tree_of c.args.left.part.now) c.args.c _ _ c.requires c.as_slice-event-items.ensures.value c.in_ok-once.ensures;
    }

pub repeat-repeat-requires : goal.repeat-repeat-requires
repeat-repeat-requires t c = (
  omega (arith, c.decreases, work_round (length c.args.text.now) c.args.rules.now.bodies c.args.depth (nodes (tree_of c.args.left.part.now)) (c.args.left.count - 1 + 1) (c.args.left.count + 1) (omega arith)),
  (AllEnds-head (Within c.args.text.now 0) _ _ _ _ (left_at c.as_slice-event-items.result.now c.loop-event.event-index _ (End c.in-End.end c.in-End.conds) c.loop-event-test.true c.event-item.is c.in-End.is) c.loop-event.invariant.inside).1,
)

pub repeat-returns-then-branch : goal.repeat-returns-then-branch
repeat-returns-then-branch t c =
    go_on_last (next_round (results c.args.text.now c.args.rules.now.bodies c.args.depth (tree_of c.args.left.part.now)) c.args.left.count c.args.c) _ _ _ _ _ _ _ _ (left_at c.as_slice-event-items.result.now c.loop-event.event-index _ (End c.in-End.end c.in-End.conds) c.loop-event-test.true c.event-item.is c.in-End.is) (round_taken (results c.args.text.now c.args.rules.now.bodies c.args.depth (tree_of c.args.left.part.now)) c.args.left.count c.args.c c.in-End.end _ _ c.if-c-end.true c.deref.ensures.value c.in_ok-later-in-End.ensures)
    (sym c.if-branch.true ∙ c.in_ok-add_after-in-End.ensures.halted) c.in_ok-add_after-in-End.ensures.added c.loop-event.invariant.added

pub repeat-loop-event-preserved : goal.repeat-loop-event-preserved
repeat-loop-event-preserved t c =
    elim c.match-event.branch [
      | repeat-in-Try+in_ok-push-in-Try w ↦ record {
        added = go_on_tried (next_round (results c.args.text.now c.args.rules.now.bodies c.args.depth (tree_of c.args.left.part.now)) c.args.left.count c.args.c) _ _ _ _ _ (left_at c.as_slice-event-items.result.now c.loop-event.event-index _ Try c.loop-event-test.true c.event-item.is w.in-Try.is) (ap (λ v. v.items) w.all-is ∙ w.in_ok-push-in-Try.ensures.items) c.loop-event.invariant.added;
        inside = AllEnds-tail (Within c.args.text.now 0) _ _ _ (left_at c.as_slice-event-items.result.now c.loop-event.event-index _ Try c.loop-event-test.true c.event-item.is w.in-Try.is) c.loop-event.invariant.inside;
      }
      | repeat-in-Set+in_ok-push-in-Set w ↦ record {
        added = go_on_set (next_round (results c.args.text.now c.args.rules.now.bodies c.args.depth (tree_of c.args.left.part.now)) c.args.left.count c.args.c) _ _ _ _ _ _ (left_at c.as_slice-event-items.result.now c.loop-event.event-index _ (Set w.in-Set.assign) c.loop-event-test.true c.event-item.is w.in-Set.is) (ap (λ v. v.items) w.all-is ∙ w.in_ok-push-in-Set.ensures.items) c.loop-event.invariant.added;
        inside = AllEnds-tail (Within c.args.text.now 0) _ _ _ (left_at c.as_slice-event-items.result.now c.loop-event.event-index _ (Set w.in-Set.assign) c.loop-event-test.true c.event-item.is w.in-Set.is) c.loop-event.invariant.inside;
      }
      | repeat-in-End+then-c-end+in_ok-later-in-End+in_ok-add_after-in-End+else-branch w ↦ record {
        added = go_on_end (next_round (results c.args.text.now c.args.rules.now.bodies c.args.depth (tree_of c.args.left.part.now)) c.args.left.count c.args.c) _ _ _ _ _ _ _ _ (left_at c.as_slice-event-items.result.now c.loop-event.event-index _ (End w.in-End.end w.in-End.conds) c.loop-event-test.true c.event-item.is w.in-End.is) (round_taken (results c.args.text.now c.args.rules.now.bodies c.args.depth (tree_of c.args.left.part.now)) c.args.left.count c.args.c w.in-End.end _ _ w.if-c-end.true w.deref.ensures.value w.in_ok-later-in-End.ensures)
            (sym w.if-branch.false ∙ w.in_ok-add_after-in-End.ensures.halted) (ap (λ v. v.items) w.all-is ∙ w.in_ok-add_after-in-End.ensures.added) c.loop-event.invariant.added;
        inside = AllEnds-tail (Within c.args.text.now 0) _ _ _ (left_at c.as_slice-event-items.result.now c.loop-event.event-index _ (End w.in-End.end w.in-End.conds) c.loop-event-test.true c.event-item.is w.in-End.is) c.loop-event.invariant.inside;
      }
      | repeat-in-End+else-c-end w ↦ record {
        added = ap (λ v. v.items ++ go_on (drop (c.loop-event.event-index + 1) c.as_slice-event-items.result.now) (next_round (results c.args.text.now c.args.rules.now.bodies c.args.depth (tree_of c.args.left.part.now)) c.args.left.count c.args.c)) w.all-is ∙ go_on_none (next_round (results c.args.text.now c.args.rules.now.bodies c.args.depth (tree_of c.args.left.part.now)) c.args.left.count c.args.c) _ _ _ _ _ _ (left_at c.as_slice-event-items.result.now c.loop-event.event-index _ (End w.in-End.end w.in-End.conds) c.loop-event-test.true c.event-item.is w.in-End.is) (round_dropped (results c.args.text.now c.args.rules.now.bodies c.args.depth (tree_of c.args.left.part.now)) c.args.left.count c.args.c w.in-End.end w.if-c-end.false) c.loop-event.invariant.added;
        inside = AllEnds-tail (Within c.args.text.now 0) _ _ _ (left_at c.as_slice-event-items.result.now c.loop-event.event-index _ (End w.in-End.end w.in-End.conds) c.loop-event-test.true c.event-item.is w.in-End.is) c.loop-event.invariant.inside;
      }
    ]

pub results-results-requires : goal.results-results-requires
results-results-requires t c = (falls _ _ _ _ _ 0 t c.decreases (omega (arith, nodes_of_seq _ _ _ (ap tree_of c.in-Seq.is), ap (λ p. nodes (tree_of p)) c.deref.ensures)) (omega arith), c.requires)

pub results-follow-requires : goal.results-follow-requires
results-follow-requires t c =
    (falls _ _ _ _ _ 1 t c.decreases (omega (arith, nodes_of_seq _ _ _ (ap tree_of c.in-Seq.is), ap (λ p. nodes (tree_of p)) c.deref-in-Seq-2.ensures)) (omega arith), inside c.args.text.now c.args.rules.now.bodies c.args.depth (tree_of c.deref.result.now) c.args.c _ _ c.requires c.deref-in-Seq.ensures.value c.in_ok-first-in-Seq.ensures)

pub results-results-requires-in-Alt : goal.results-results-requires-in-Alt
results-results-requires-in-Alt t c =
    (falls _ _ _ _ _ 0 t c.decreases (omega (arith, nodes_of_alt _ _ _ (ap tree_of c.in-Alt.is), ap (λ p. nodes (tree_of p)) c.deref-in-Alt.ensures)) (omega arith), c.requires)

pub results-results-requires-then-not-has_halt : goal.results-results-requires-then-not-has_halt
results-results-requires-then-not-has_halt t c =
    (falls _ _ _ _ _ 0 t c.decreases (omega (arith, nodes_of_alt _ _ _ (ap tree_of c.in-Alt.is), ap (λ p. nodes (tree_of p)) c.deref-then-not-has_halt.ensures)) (omega arith), c.requires)

pub results-repeat-requires : goal.results-repeat-requires
results-repeat-requires t c =
    (falls _ _ _ _ _ (length c.bytes.result.now - c.args.c + 1 + 1) t c.decreases (omega (arith, nodes_of_arbno _ _ (ap tree_of c.in-Arbno.is), ap (λ p. nodes (tree_of p)) c.deref-in-Arbno.ensures)) (omega (arith, ap length c.bytes.ensures.value)), c.requires)

pub results-results-requires-in-Cond : goal.results-results-requires-in-Cond
results-results-requires-in-Cond t c =
    (falls _ _ _ _ _ 0 t c.decreases (omega (arith, nodes_of_cond _ _ _ (ap tree_of c.in-Cond.is), ap (λ p. nodes (tree_of p)) c.deref-in-Cond.ensures)) (omega arith), c.requires)

pub results-results-requires-in-Imm : goal.results-results-requires-in-Imm
results-results-requires-in-Imm t c =
    (falls _ _ _ _ _ 0 t c.decreases (omega (arith, nodes_of_imm _ _ _ (ap tree_of c.in-Imm.is), ap (λ p. nodes (tree_of p)) c.deref-in-Imm.ensures)) (omega arith), c.requires)

pub results-named-requires : goal.results-named-requires
results-named-requires t c =
    (falls _ _ _ _ _ 0 t c.decreases (some_nodes (tree_of c.args.pattern.now)) (omega arith), c.requires)

pub results-returns-after-not-has_halt : goal.results-returns-after-not-has_halt
results-returns-after-not-has_halt t c =
    elim c.if-not-has_halt.branch [
      | results-then-not-has_halt+in_ok-others-in-Alt+in_ok-append-in-Alt w ↦
          c.cut.ensures
          ∙ both_sides c.args.text.now c.args.rules.now.bodies c.args.depth c.args.c (tree_of c.args.pattern.now) (tree_of c.in-Alt.left.value) (tree_of c.in-Alt.right.value) (tree_of c.deref-in-Alt.result.now) (tree_of w.deref-then-not-has_halt.result.now) _ _ _ (ap tree_of c.in-Alt.is) (ap tree_of c.deref-in-Alt.ensures) (ap tree_of w.deref-then-not-has_halt.ensures)
          c.in_ok-events-in-Alt.ensures w.in_ok-others-in-Alt.ensures (ap (λ v. v.items) w.events-is ∙ w.in_ok-append-in-Alt.ensures.items)
      | results-else-not-has_halt w ↦
          c.cut.ensures
          ∙ one_side c.args.text.now c.args.rules.now.bodies c.args.depth c.args.c (tree_of c.args.pattern.now) (tree_of c.in-Alt.left.value) (tree_of c.in-Alt.right.value) (tree_of c.deref-in-Alt.result.now) _ _ (ap tree_of c.in-Alt.is) (ap tree_of c.deref-in-Alt.ensures)
          c.in_ok-events-in-Alt.ensures (sym w.if-not-has_halt.false ∙ c.has_halt.ensures ∙ ap (list_any is_halt) c.deref-in-Alt-2.ensures.value) (ap (λ v. v.items) w.events-is)
    ]
