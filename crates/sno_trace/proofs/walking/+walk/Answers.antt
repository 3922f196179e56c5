-- Each call has less to do than the one that makes it, and what each adds is what the definitions say.
use Rattle.std.proofs.Common.{◌+◌, ◌-◌, [], ◌∷◌, ◌++◌, length, drop, arith, refl, ap, sym, ◌∙◌, inl, inr}
use Rattle.std.specs.List.{list_any}
use Rattle.sno_pattern.specs.Tree.{tree_of}
use Rattle.sno_pattern.specs.Laws.{Within}
use Rattle.sno_trace.specs.declared.events.Noted.TheVariants.{End}
use Rattle.sno_trace.specs.Noted.{go_on, noted, noted_rounds, upto}
use Rattle.sno_trace.specs.Steps.{is_last, trials_of}
use Rattle.sno_trace.proofs.NotedLaws.{few_trials}
use Rattle.sno_trace.proofs.Parts.{inside, both_sides, one_side, seq_does, arbno_does, cond_does, imm_does, ref_does, named_no_more, named_missing, named_does, round_taken, round_dropped}
use Rattle.sno_trace.proofs.Going.{left_at, go_on_other, go_on_other_last, go_on_marked, go_on_end, go_on_last, not_both, AllEnds-tail, AllEnds-head, next_round, rounds_begun}
use Rattle.sno_trace.proofs.Nesting.{list_as, deep_as, passed_on, nests_none, in_first, in_second, in_either, in_other, in_part, in_assigned, in_named, in_body, in_round, in_later_round, found_end}
use Rattle.sno_trace.proofs.Work.{nodes, work_round, work_body, falls, nodes_of_seq, nodes_of_alt, nodes_of_arbno, nodes_of_cond, nodes_of_imm, some_nodes}
use Rattle.sno_trace.proofs.walking.+walk.Goals as goal
use Rattle.sno_trace.proofs.walking.+walk.Goals.{walk-then-not-has_last+in_ok-others-in-Alt+in_ok-append-in-Alt, walk-else-not-has_last, follow-in-End+in_ok-later-in-End+in_ok-ended-in-End, follow-in_default+in_ok-ended-in_default, repeat-in-End+then-c-end+in_ok-later-in-End+in_ok-ended-in-End, repeat-in-End+else-c-end+in_ok-push_null_round-in-End, repeat-in_default+in_ok-ended-in_default}

pub follow-walk-requires : goal.follow-walk-requires
follow-walk-requires t c = (
  omega (arith, c.decreases, work_round (length c.args.setting.now.text.now) c.args.setting.now.rules.now.bodies c.args.setting.now.depth (nodes (tree_of c.args.pattern.now)) 0 1 (omega arith)),
  (AllEnds-head (Within c.args.setting.now.text.now 0) _ _ _ _ (left_at c.args.first.now c.loop-event.event-index _ (End c.in-End.end c.in-End.conds) c.loop-event-test.true c.event-item.is c.in-End.is) c.loop-event.invariant.inside).1,
)

pub follow-returns-then-ended-clause-done : goal.follow-returns-then-ended-clause-done
follow-returns-then-ended-clause-done t c =
    elim c.match-event.branch [
      | follow-in-End+in_ok-later-in-End+in_ok-ended-in-End w ↦
          go_on_last (noted c.args.setting.now.text.now c.args.setting.now.rules.now.bodies c.args.setting.now.depth (tree_of c.args.pattern.now)) _ c.loop-event.left _ _ _ _ _ _ _ (left_at c.args.first.now c.loop-event.event-index _ (End w.in-End.end w.in-End.conds) c.loop-event-test.true c.event-item.is w.in-End.is) w.in_ok-later-in-End.ensures.done
          (sym c.if-ended.true ∙ w.ended-is ∙ w.in_ok-ended-in-End.ensures.ended) (ap (λ v. v.items) w.all-is ∙ w.in_ok-ended-in-End.ensures.added) c.loop-event.invariant.added
      | follow-in_default+in_ok-ended-in_default w ↦
          go_on_other_last (noted c.args.setting.now.text.now c.args.setting.now.rules.now.bodies c.args.setting.now.depth (tree_of c.args.pattern.now)) _ c.loop-event.left _ _ _ _ _ (left_at c.args.first.now c.loop-event.event-index _ c.event-item.result c.loop-event-test.true c.event-item.is refl) w.in_default.not-End
          (sym c.if-ended.true ∙ w.ended-is ∙ w.in_ok-ended-in_default.ensures.ended) (ap (λ v. v.items) w.all-is ∙ w.in_ok-ended-in_default.ensures.added) c.loop-event.invariant.added
    ]

pub follow-add_later-requires : goal.follow-add_later-requires
follow-add_later-requires t c =
    omega (arith, few_trials c.loop-event.left (noted c.args.setting.now.text.now c.args.setting.now.rules.now.bodies c.args.setting.now.depth (tree_of c.args.pattern.now) c.in-End.end), ap trials_of c.in_ok-later-in-End.ensures.done)

pub follow-loop-event-preserved : goal.follow-loop-event-preserved
follow-loop-event-preserved t c =
    elim c.match-event.branch [
      | follow-in-End+in_ok-later-in-End+in_ok-ended-in-End w ↦ record {
        added = go_on_end (noted c.args.setting.now.text.now c.args.setting.now.rules.now.bodies c.args.setting.now.depth (tree_of c.args.pattern.now)) _ c.loop-event.left _ _ _ _ _ _ _ _ (left_at c.args.first.now c.loop-event.event-index _ (End w.in-End.end w.in-End.conds) c.loop-event-test.true c.event-item.is w.in-End.is) w.in_ok-later-in-End.ensures.done
            (sym c.if-ended.false ∙ w.ended-is ∙ w.in_ok-ended-in-End.ensures.ended)
            (w.left-is ∙ w.in_ok-ended-in-End.ensures.left (sym w.ended-is ∙ c.if-ended.false)) (ap (λ v. v.items) w.all-is ∙ w.in_ok-ended-in-End.ensures.added) c.loop-event.invariant.added;
        inside = AllEnds-tail (Within c.args.setting.now.text.now 0) _ _ _ (left_at c.args.first.now c.loop-event.event-index _ (End w.in-End.end w.in-End.conds) c.loop-event-test.true c.event-item.is w.in-End.is) c.loop-event.invariant.inside;
      }
      | follow-in_default+in_ok-ended-in_default w ↦ record {
        added = go_on_other (noted c.args.setting.now.text.now c.args.setting.now.rules.now.bodies c.args.setting.now.depth (tree_of c.args.pattern.now)) _ c.loop-event.left _ _ _ _ _ _ (left_at c.args.first.now c.loop-event.event-index _ c.event-item.result c.loop-event-test.true c.event-item.is refl) w.in_default.not-End
            (sym c.if-ended.false ∙ w.ended-is ∙ w.in_ok-ended-in_default.ensures.ended) (w.left-is ∙ w.in_ok-ended-in_default.ensures.left) (ap (λ v. v.items) w.all-is ∙ w.in_ok-ended-in_default.ensures.added) c.loop-event.invariant.added;
        inside = AllEnds-tail (Within c.args.setting.now.text.now 0) _ _ _ (left_at c.args.first.now c.loop-event.event-index _ c.event-item.result c.loop-event-test.true c.event-item.is refl) c.loop-event.invariant.inside;
      }
    ]

pub named-returns-then-setting-eq0-clause-done : goal.named-returns-then-setting-eq0-clause-done
named-returns-then-setting-eq0-clause-done t c =
    named_no_more c.args.setting.now.text.now c.args.setting.now.rules.now.bodies c.args.setting.now.depth c.args.limit c.args.number c.args.c _ c.new.ensures.items c.if-setting-eq0.true

pub named-walk-requires : goal.named-walk-requires
named-walk-requires t c = (
  omega (arith, c.decreases, work_body (length c.args.setting.now.text.now) c.args.setting.now.rules.now.bodies c.args.setting.now.depth c.args.number (tree_of c.in-Some.body.now) c.in-Some.ensures (omega arith)),
  c.requires,
)

pub named-returns-in-None-clause-done : goal.named-returns-in-None-clause-done
named-returns-in-None-clause-done t c =
    named_missing c.args.setting.now.text.now c.args.setting.now.rules.now.bodies c.args.setting.now.depth c.args.limit c.args.number c.args.c _ c.new-in-None.ensures.items c.in-None.ensures

pub named-returns-in-Some-clause-done : goal.named-returns-in-Some-clause-done
named-returns-in-Some-clause-done t c =
    list_as c.walk.result _ _ c.walk.ensures.done (λ z is. named_does c.args.setting.now.text.now c.args.setting.now.rules.now.bodies c.args.setting.now.depth c.args.limit c.args.number c.args.c (tree_of c.in-Some.body.now) z (omega arith) c.in-Some.ensures is)

pub named-returns-in-Some-clause-deep : goal.named-returns-in-Some-clause-deep
named-returns-in-Some-clause-deep t c =
    deep_as c.walk.result _ _ c.walk.ensures.deep (λ h. in_body c.args.setting.now.text.now c.args.setting.now.rules.now.bodies c.args.room c.args.setting.now.depth c.args.number c.args.c (tree_of c.in-Some.body.now) (omega arith) c.in-Some.ensures h)

pub repeat-walk-requires : goal.repeat-walk-requires
repeat-walk-requires t c = (
  omega (arith, c.decreases, work_round (length c.args.setting.now.text.now) c.args.setting.now.rules.now.bodies c.args.setting.now.depth (nodes (tree_of c.args.rounds.part.now)) 0 (c.args.rounds.count + 1) (omega arith)),
  c.requires,
)

pub repeat-loop-event-init : goal.repeat-loop-event-init
repeat-loop-event-init t c =
    record {
      added = rounds_begun c.args.limit c.args.setting.now.depth (noted c.args.setting.now.text.now c.args.setting.now.rules.now.bodies c.args.setting.now.depth (tree_of c.args.rounds.part.now)) c.args.rounds.count c.args.c _ _ (omega arith)
          (c.in_ok-push_end.ensures ∙ ap (λ l. l ++ End c.args.c [] ∷ []) c.new-all.ensures.items) (c.as_slice-event-items.ensures.value ∙ c.in_ok-once.ensures.done);
      inside = inside c.args.setting.now.text.now c.args.setting.now.rules.now.bodies c.args.setting.now.depth c.args.limit (tree_of c.args.rounds.part.now) c.args.c _ _ c.requires c.as_slice-event-items.ensures.value c.in_ok-once.ensures.done;
    }

pub repeat-repeat-requires : goal.repeat-repeat-requires
repeat-repeat-requires t c = (
  omega (arith, c.decreases, work_round (length c.args.setting.now.text.now) c.args.setting.now.rules.now.bodies c.args.setting.now.depth (nodes (tree_of c.args.rounds.part.now)) (c.args.rounds.count - 1 + 1) (c.args.rounds.count + 1) (omega arith)),
  (AllEnds-head (Within c.args.setting.now.text.now 0) _ _ _ _ (left_at c.as_slice-event-items.result.now c.loop-event.event-index _ (End c.in-End.end c.in-End.conds) c.loop-event-test.true c.event-item.is c.in-End.is) c.loop-event.invariant.inside).1,
)

pub repeat-returns-then-ended-clause-done : goal.repeat-returns-then-ended-clause-done
repeat-returns-then-ended-clause-done t c =
    elim c.match-event.branch [
      | repeat-in-End+then-c-end+in_ok-later-in-End+in_ok-ended-in-End w ↦
          go_on_last (next_round c.args.setting.now.depth (noted c.args.setting.now.text.now c.args.setting.now.rules.now.bodies c.args.setting.now.depth (tree_of c.args.rounds.part.now)) c.args.rounds.count c.args.c) _ c.loop-event.left _ _ _ _ _ _ _ (left_at c.as_slice-event-items.result.now c.loop-event.event-index _ (End w.in-End.end w.in-End.conds) c.loop-event-test.true c.event-item.is w.in-End.is) (round_taken c.loop-event.left c.args.setting.now.depth (noted c.args.setting.now.text.now c.args.setting.now.rules.now.bodies c.args.setting.now.depth (tree_of c.args.rounds.part.now)) c.args.rounds.count c.args.c w.in-End.end _ w.if-c-end.true w.in_ok-later-in-End.ensures.done)
          (sym c.if-ended.true ∙ w.ended-is ∙ w.in_ok-ended-in-End.ensures.ended) (ap (λ v. v.items) w.all-is ∙ w.in_ok-ended-in-End.ensures.added) c.loop-event.invariant.added
      | repeat-in-End+else-c-end+in_ok-push_null_round-in-End w ↦ not_both _ _ (sym c.if-ended.true ∙ w.ended-is)
      | repeat-in_default+in_ok-ended-in_default w ↦
          go_on_other_last (next_round c.args.setting.now.depth (noted c.args.setting.now.text.now c.args.setting.now.rules.now.bodies c.args.setting.now.depth (tree_of c.args.rounds.part.now)) c.args.rounds.count c.args.c) _ c.loop-event.left _ _ _ _ _ (left_at c.as_slice-event-items.result.now c.loop-event.event-index _ c.event-item.result c.loop-event-test.true c.event-item.is refl) w.in_default.not-End
          (sym c.if-ended.true ∙ w.ended-is ∙ w.in_ok-ended-in_default.ensures.ended) (ap (λ v. v.items) w.all-is ∙ w.in_ok-ended-in_default.ensures.added) c.loop-event.invariant.added
    ]

pub repeat-add_later-requires : goal.repeat-add_later-requires
repeat-add_later-requires t c =
    omega (arith, few_trials c.loop-event.left (noted_rounds c.args.setting.now.depth (noted c.args.setting.now.text.now c.args.setting.now.rules.now.bodies c.args.setting.now.depth (tree_of c.args.rounds.part.now)) (c.args.rounds.count - 1) c.in-End.end), ap trials_of c.in_ok-later-in-End.ensures.done)

pub repeat-loop-event-preserved : goal.repeat-loop-event-preserved
repeat-loop-event-preserved t c =
    elim c.match-event.branch [
      | repeat-in-End+then-c-end+in_ok-later-in-End+in_ok-ended-in-End w ↦ record {
        added = go_on_end (next_round c.args.setting.now.depth (noted c.args.setting.now.text.now c.args.setting.now.rules.now.bodies c.args.setting.now.depth (tree_of c.args.rounds.part.now)) c.args.rounds.count c.args.c) _ c.loop-event.left _ _ _ _ _ _ _ _ (left_at c.as_slice-event-items.result.now c.loop-event.event-index _ (End w.in-End.end w.in-End.conds) c.loop-event-test.true c.event-item.is w.in-End.is) (round_taken c.loop-event.left c.args.setting.now.depth (noted c.args.setting.now.text.now c.args.setting.now.rules.now.bodies c.args.setting.now.depth (tree_of c.args.rounds.part.now)) c.args.rounds.count c.args.c w.in-End.end _ w.if-c-end.true w.in_ok-later-in-End.ensures.done)
            (sym c.if-ended.false ∙ w.ended-is ∙ w.in_ok-ended-in-End.ensures.ended)
            (w.left-is ∙ w.in_ok-ended-in-End.ensures.left (sym w.ended-is ∙ c.if-ended.false)) (ap (λ v. v.items) w.all-is ∙ w.in_ok-ended-in-End.ensures.added) c.loop-event.invariant.added;
        inside = AllEnds-tail (Within c.args.setting.now.text.now 0) _ _ _ (left_at c.as_slice-event-items.result.now c.loop-event.event-index _ (End w.in-End.end w.in-End.conds) c.loop-event-test.true c.event-item.is w.in-End.is) c.loop-event.invariant.inside;
      }
      | repeat-in-End+else-c-end+in_ok-push_null_round-in-End w ↦ record {
        added = ap (λ j. c.match-event.all.items ++ upto j (go_on (drop (c.loop-event.event-index + 1) c.as_slice-event-items.result.now) (next_round c.args.setting.now.depth (noted c.args.setting.now.text.now c.args.setting.now.rules.now.bodies c.args.setting.now.depth (tree_of c.args.rounds.part.now)) c.args.rounds.count c.args.c))) w.left-is
            ∙ go_on_marked (next_round c.args.setting.now.depth (noted c.args.setting.now.text.now c.args.setting.now.rules.now.bodies c.args.setting.now.depth (tree_of c.args.rounds.part.now)) c.args.rounds.count c.args.c) _ c.loop-event.left _ _ _ _ _ _ _ (left_at c.as_slice-event-items.result.now c.loop-event.event-index _ (End w.in-End.end w.in-End.conds) c.loop-event-test.true c.event-item.is w.in-End.is) (round_dropped c.args.setting.now.depth (noted c.args.setting.now.text.now c.args.setting.now.rules.now.bodies c.args.setting.now.depth (tree_of c.args.rounds.part.now)) c.args.rounds.count c.args.c w.in-End.end w.if-c-end.false) (ap (λ v. v.items) w.all-is ∙ w.in_ok-push_null_round-in-End.ensures) c.loop-event.invariant.added;
        inside = AllEnds-tail (Within c.args.setting.now.text.now 0) _ _ _ (left_at c.as_slice-event-items.result.now c.loop-event.event-index _ (End w.in-End.end w.in-End.conds) c.loop-event-test.true c.event-item.is w.in-End.is) c.loop-event.invariant.inside;
      }
      | repeat-in_default+in_ok-ended-in_default w ↦ record {
        added = go_on_other (next_round c.args.setting.now.depth (noted c.args.setting.now.text.now c.args.setting.now.rules.now.bodies c.args.setting.now.depth (tree_of c.args.rounds.part.now)) c.args.rounds.count c.args.c) _ c.loop-event.left _ _ _ _ _ _ (left_at c.as_slice-event-items.result.now c.loop-event.event-index _ c.event-item.result c.loop-event-test.true c.event-item.is refl) w.in_default.not-End
            (sym c.if-ended.false ∙ w.ended-is ∙ w.in_ok-ended-in_default.ensures.ended) (w.left-is ∙ w.in_ok-ended-in_default.ensures.left) (ap (λ v. v.items) w.all-is ∙ w.in_ok-ended-in_default.ensures.added) c.loop-event.invariant.added;
        inside = AllEnds-tail (Within c.args.setting.now.text.now 0) _ _ _ (left_at c.as_slice-event-items.result.now c.loop-event.event-index _ c.event-item.result c.loop-event-test.true c.event-item.is refl) c.loop-event.invariant.inside;
      }
    ]

pub walk-walk-requires : goal.walk-walk-requires
walk-walk-requires t c =
    (falls _ _ _ _ _ 0 t c.decreases (omega (arith, nodes_of_seq _ _ _ (ap tree_of c.in-Seq.is), ap (λ p. nodes (tree_of p)) c.deref.ensures)) (omega arith), c.requires)

pub walk-follow-requires : goal.walk-follow-requires
walk-follow-requires t c =
    (falls _ _ _ _ _ 1 t c.decreases (omega (arith, nodes_of_seq _ _ _ (ap tree_of c.in-Seq.is), ap (λ p. nodes (tree_of p)) c.deref-in-Seq-2.ensures)) (omega arith), inside c.args.setting.now.text.now c.args.setting.now.rules.now.bodies c.args.setting.now.depth c.args.limit (tree_of c.deref.result.now) c.args.c _ _ c.requires c.deref-in-Seq.ensures.value c.in_ok-first-in-Seq.ensures.done)

pub walk-walk-requires-in-Alt : goal.walk-walk-requires-in-Alt
walk-walk-requires-in-Alt t c =
    (falls _ _ _ _ _ 0 t c.decreases (omega (arith, nodes_of_alt _ _ _ (ap tree_of c.in-Alt.is), ap (λ p. nodes (tree_of p)) c.deref-in-Alt.ensures)) (omega arith), c.requires)

pub walk-repeat-requires : goal.walk-repeat-requires
walk-repeat-requires t c =
    (falls _ _ _ _ _ (length c.bytes.result.now - c.args.c + 1 + 1) t c.decreases (omega (arith, nodes_of_arbno _ _ (ap tree_of c.in-Arbno.is), ap (λ p. nodes (tree_of p)) c.deref-in-Arbno.ensures)) (omega (arith, ap length c.bytes.ensures.value)), c.requires)

pub walk-walk-requires-in-Cond : goal.walk-walk-requires-in-Cond
walk-walk-requires-in-Cond t c =
    (falls _ _ _ _ _ 0 t c.decreases (omega (arith, nodes_of_cond _ _ _ (ap tree_of c.in-Cond.is), ap (λ p. nodes (tree_of p)) c.deref-in-Cond.ensures)) (omega arith), c.requires)

pub walk-walk-requires-in-Imm : goal.walk-walk-requires-in-Imm
walk-walk-requires-in-Imm t c =
    (falls _ _ _ _ _ 0 t c.decreases (omega (arith, nodes_of_imm _ _ _ (ap tree_of c.in-Imm.is), ap (λ p. nodes (tree_of p)) c.deref-in-Imm.ensures)) (omega arith), c.requires)

pub walk-named-requires : goal.walk-named-requires
walk-named-requires t c =
    (falls _ _ _ _ _ 0 t c.decreases (some_nodes (tree_of c.args.pattern.now)) (omega arith), c.requires)

pub walk-returns-in_ok-first-in-Seq-clause-done : goal.walk-returns-in_ok-first-in-Seq-clause-done
walk-returns-in_ok-first-in-Seq-clause-done t c =
    list_as c.follow.result _ _ c.follow.ensures.done (λ z is. seq_does c.args.setting.now.text.now c.args.setting.now.rules.now.bodies c.args.setting.now.depth c.args.limit c.args.c (tree_of c.args.pattern.now) (tree_of c.in-Seq.left.value) (tree_of c.in-Seq.right.value) (tree_of c.deref.result.now) (tree_of c.deref-in-Seq-2.result.now) _ _ z
    (ap tree_of c.in-Seq.is) (ap tree_of c.deref.ensures) (ap tree_of c.deref-in-Seq-2.ensures) c.deref-in-Seq.ensures.value c.in_ok-first-in-Seq.ensures.done is)

pub walk-returns-in_ok-events-in-Cond-clause-done : goal.walk-returns-in_ok-events-in-Cond-clause-done
walk-returns-in_ok-events-in-Cond-clause-done t c =
    cond_does c.args.setting.now.text.now c.args.setting.now.rules.now.bodies c.args.setting.now.depth c.args.limit c.args.c (tree_of c.args.pattern.now) (tree_of c.in-Cond.part.value) (tree_of c.deref-in-Cond.result.now) c.in-Cond.name _ _ _
    (ap tree_of c.in-Cond.is) (ap tree_of c.deref-in-Cond.ensures) c.deref-in-Cond-2.ensures.value c.in_ok-inner-in-Cond.ensures.done c.in_ok-events-in-Cond.ensures

pub walk-returns-in_ok-events-in-Imm-clause-done : goal.walk-returns-in_ok-events-in-Imm-clause-done
walk-returns-in_ok-events-in-Imm-clause-done t c =
    imm_does c.args.setting.now.text.now c.args.setting.now.rules.now.bodies c.args.setting.now.depth c.args.limit c.args.c (tree_of c.args.pattern.now) (tree_of c.in-Imm.part.value) (tree_of c.deref-in-Imm.result.now) c.in-Imm.name _ _ _
    (ap tree_of c.in-Imm.is) (ap tree_of c.deref-in-Imm.ensures) c.deref-in-Imm-2.ensures.value c.in_ok-inner-in-Imm.ensures.done c.in_ok-events-in-Imm.ensures

pub walk-returns-in_ok-events-in-Ref-clause-done : goal.walk-returns-in_ok-events-in-Ref-clause-done
walk-returns-in_ok-events-in-Ref-clause-done t c =
    ref_does c.args.setting.now.text.now c.args.setting.now.rules.now.bodies c.args.setting.now.depth c.args.limit c.args.c (tree_of c.args.pattern.now) c.in-Ref.number _ _ _ (ap tree_of c.in-Ref.is) c.deref-in-Ref.ensures.value c.in_ok-inner-in-Ref.ensures.done c.in_ok-events-in-Ref.ensures

pub walk-overflow_sub-rest : goal.walk-overflow_sub-rest
walk-overflow_sub-rest t c =
    omega (arith, few_trials c.args.limit (noted c.args.setting.now.text.now c.args.setting.now.rules.now.bodies c.args.setting.now.depth (tree_of c.deref-in-Alt.result.now) c.args.c), c.count_trials.ensures.value, ap trials_of (c.deref-then-not-has_last.ensures.value ∙ c.in_ok-events-in-Alt.ensures.done))

pub walk-walk-requires-then-not-has_last : goal.walk-walk-requires-then-not-has_last
walk-walk-requires-then-not-has_last t c =
    (falls _ _ _ _ _ 0 t c.decreases (omega (arith, nodes_of_alt _ _ _ (ap tree_of c.in-Alt.is), ap (λ p. nodes (tree_of p)) c.deref-then-not-has_last-2.ensures)) (omega arith), c.requires)

pub walk-returns-after-not-has_last-clause-done : goal.walk-returns-after-not-has_last-clause-done
walk-returns-after-not-has_last-clause-done t c =
    elim c.if-not-has_last.branch [
      | walk-then-not-has_last+in_ok-others-in-Alt+in_ok-append-in-Alt w ↦
          c.cut.ensures
          ∙ both_sides c.args.setting.now.text.now c.args.setting.now.rules.now.bodies c.args.setting.now.depth c.args.limit (c.args.limit - w.count_trials.result) c.args.c (tree_of c.args.pattern.now) (tree_of c.in-Alt.left.value) (tree_of c.in-Alt.right.value) (tree_of c.deref-in-Alt.result.now) (tree_of w.deref-then-not-has_last-2.result.now) _ _ _
          (ap tree_of c.in-Alt.is) (ap tree_of c.deref-in-Alt.ensures) (ap tree_of w.deref-then-not-has_last-2.ensures)
          c.in_ok-events-in-Alt.ensures.done (sym w.if-not-has_last.true ∙ c.has_last.ensures ∙ ap (list_any is_last) c.deref-in-Alt-2.ensures.value)
          (ap (λ j. c.args.limit - j) (w.count_trials.ensures.value ∙ ap trials_of w.deref-then-not-has_last.ensures.value))
          w.in_ok-others-in-Alt.ensures.done (ap (λ v. v.items) w.events-is ∙ w.in_ok-append-in-Alt.ensures.items)
      | walk-else-not-has_last w ↦
          c.cut.ensures
          ∙ one_side c.args.setting.now.text.now c.args.setting.now.rules.now.bodies c.args.setting.now.depth c.args.limit c.args.c (tree_of c.args.pattern.now) (tree_of c.in-Alt.left.value) (tree_of c.in-Alt.right.value) (tree_of c.deref-in-Alt.result.now) _ _ (ap tree_of c.in-Alt.is) (ap tree_of c.deref-in-Alt.ensures)
          c.in_ok-events-in-Alt.ensures.done (sym w.if-not-has_last.false ∙ c.has_last.ensures ∙ ap (list_any is_last) c.deref-in-Alt-2.ensures.value) (ap (λ v. v.items) w.events-is)
    ]

pub follow-returns-in_err-later-in-End-clause-deep : goal.follow-returns-in_err-later-in-End-clause-deep
follow-returns-in_err-later-in-End-clause-deep t c =
    passed_on _ _ _ c.from_residual.ensures.1 (λ is. (c.in-End.end, found_end c.args.first.now c.loop-event.event-index _ c.in-End.end c.in-End.conds (left_at c.args.first.now c.loop-event.event-index _ (End c.in-End.end c.in-End.conds) c.loop-event-test.true c.event-item.is c.in-End.is), c.in_err-later-in-End.ensures.deep is))

pub repeat-returns-in_err-inside-clause-deep : goal.repeat-returns-in_err-inside-clause-deep
repeat-returns-in_err-inside-clause-deep t c = passed_on _ _ _ c.from_residual.ensures.1 (λ is. nests_none c.args.setting.now.text.now c.args.setting.now.rules.now.bodies c.args.room c.args.setting.now.depth _ c.args.c c.in_err-inside.ensures.used_up)

pub repeat-returns-in_err-once-clause-deep : goal.repeat-returns-in_err-once-clause-deep
repeat-returns-in_err-once-clause-deep t c = passed_on _ _ _ c.from_residual-in_err-once.ensures.1 (λ is. in_round c.args.setting.now.text.now c.args.setting.now.rules.now.bodies c.args.room _ c.args.setting.now.depth (tree_of c.args.rounds.part.now) c.args.c c.in_ok-inside.ensures.left (c.in_err-once.ensures.deep is))

pub repeat-returns-in_err-later-in-End-clause-deep : goal.repeat-returns-in_err-later-in-End-clause-deep
repeat-returns-in_err-later-in-End-clause-deep t c =
    passed_on _ _ _ c.from_residual-in_err-later-in-End.ensures.1 (λ is. in_later_round c.args.setting.now.text.now c.args.setting.now.rules.now.bodies c.args.room _ c.args.setting.now.depth c.args.limit (tree_of c.args.rounds.part.now) c.args.c c.in-End.end _ _ c.in_ok-inside.ensures.left c.as_slice-event-items.ensures.value c.in_ok-once.ensures.done
    (found_end c.as_slice-event-items.result.now c.loop-event.event-index _ c.in-End.end c.in-End.conds (left_at c.as_slice-event-items.result.now c.loop-event.event-index _ (End c.in-End.end c.in-End.conds) c.loop-event-test.true c.event-item.is c.in-End.is)) c.if-c-end.true (c.in_err-later-in-End.ensures.deep is))

pub walk-returns-in_err-inside-clause-deep : goal.walk-returns-in_err-inside-clause-deep
walk-returns-in_err-inside-clause-deep t c = passed_on _ _ _ c.from_residual.ensures.1 (λ is. nests_none c.args.setting.now.text.now c.args.setting.now.rules.now.bodies c.args.room c.args.setting.now.depth _ c.args.c c.in_err-inside.ensures.used_up)

pub walk-returns-in_err-first-in-Seq-clause-deep : goal.walk-returns-in_err-first-in-Seq-clause-deep
walk-returns-in_err-first-in-Seq-clause-deep t c =
    passed_on _ _ _ c.from_residual-in_err-first-in-Seq.ensures.1 (λ is. in_first c.args.setting.now.text.now c.args.setting.now.rules.now.bodies c.args.room _ c.args.setting.now.depth c.args.c _ _ _ _ (ap tree_of c.in-Seq.is) (ap tree_of c.deref.ensures) c.in_ok-inside.ensures.left (c.in_err-first-in-Seq.ensures.deep is))

pub walk-returns-in_ok-first-in-Seq-clause-deep : goal.walk-returns-in_ok-first-in-Seq-clause-deep
walk-returns-in_ok-first-in-Seq-clause-deep t c =
    deep_as c.follow.result _ _ c.follow.ensures.deep (λ h. in_second c.args.setting.now.text.now c.args.setting.now.rules.now.bodies c.args.room _ c.args.setting.now.depth c.args.limit c.args.c _ _ _ _ _ _ _ (ap tree_of c.in-Seq.is) (ap tree_of c.deref.ensures) (ap tree_of c.deref-in-Seq-2.ensures) c.in_ok-inside.ensures.left
    c.deref-in-Seq.ensures.value c.in_ok-first-in-Seq.ensures.done h)

pub walk-returns-in_err-events-in-Alt-clause-deep : goal.walk-returns-in_err-events-in-Alt-clause-deep
walk-returns-in_err-events-in-Alt-clause-deep t c =
    passed_on _ _ _ c.from_residual-in_err-events-in-Alt.ensures.1 (λ is. in_either c.args.setting.now.text.now c.args.setting.now.rules.now.bodies c.args.room _ c.args.setting.now.depth c.args.c _ _ _ _ (ap tree_of c.in-Alt.is) (ap tree_of c.deref-in-Alt.ensures) c.in_ok-inside.ensures.left (c.in_err-events-in-Alt.ensures.deep is))

pub walk-returns-in_err-others-in-Alt-clause-deep : goal.walk-returns-in_err-others-in-Alt-clause-deep
walk-returns-in_err-others-in-Alt-clause-deep t c =
    passed_on _ _ _ c.from_residual-in_err-others-in-Alt.ensures.1 (λ is. in_other c.args.setting.now.text.now c.args.setting.now.rules.now.bodies c.args.room _ c.args.setting.now.depth c.args.c _ _ _ _ (ap tree_of c.in-Alt.is) (ap tree_of c.deref-then-not-has_last-2.ensures) c.in_ok-inside.ensures.left (c.in_err-others-in-Alt.ensures.deep is))

pub walk-returns-in-Arbno-clause-done : goal.walk-returns-in-Arbno-clause-done
walk-returns-in-Arbno-clause-done t c =
    list_as c.repeat.result _ _ c.repeat.ensures.done (λ z is. arbno_does c.args.setting.now.text.now c.args.setting.now.rules.now.bodies c.args.setting.now.depth c.args.limit c.args.c (tree_of c.args.pattern.now) (tree_of c.in-Arbno.part.value) (tree_of c.deref-in-Arbno.result.now) c.bytes.result.now z
    (ap tree_of c.in-Arbno.is) (ap tree_of c.deref-in-Arbno.ensures) c.bytes.ensures.value is)

pub walk-returns-in-Arbno-clause-deep : goal.walk-returns-in-Arbno-clause-deep
walk-returns-in-Arbno-clause-deep t c =
    deep_as c.repeat.result _ _ c.repeat.ensures.deep (λ h. in_part c.args.setting.now.text.now c.args.setting.now.rules.now.bodies c.args.room c.args.setting.now.depth c.args.c _ _ _ (ap tree_of c.in-Arbno.is) (ap tree_of c.deref-in-Arbno.ensures) h)

pub walk-returns-in_err-inner-in-Cond-clause-deep : goal.walk-returns-in_err-inner-in-Cond-clause-deep
walk-returns-in_err-inner-in-Cond-clause-deep t c =
    passed_on _ _ _ c.from_residual-in_err-inner-in-Cond.ensures.1 (λ is. in_assigned c.args.setting.now.text.now c.args.setting.now.rules.now.bodies c.args.room _ c.args.setting.now.depth c.args.c _ _ _ _ (inl (ap tree_of c.in-Cond.is)) (ap tree_of c.deref-in-Cond.ensures) c.in_ok-inside.ensures.left (c.in_err-inner-in-Cond.ensures.deep is))

pub walk-returns-in_err-inner-in-Imm-clause-deep : goal.walk-returns-in_err-inner-in-Imm-clause-deep
walk-returns-in_err-inner-in-Imm-clause-deep t c =
    passed_on _ _ _ c.from_residual-in_err-inner-in-Imm.ensures.1 (λ is. in_assigned c.args.setting.now.text.now c.args.setting.now.rules.now.bodies c.args.room _ c.args.setting.now.depth c.args.c _ _ _ _ (inr (ap tree_of c.in-Imm.is)) (ap tree_of c.deref-in-Imm.ensures) c.in_ok-inside.ensures.left (c.in_err-inner-in-Imm.ensures.deep is))

pub walk-returns-in_err-inner-in-Ref-clause-deep : goal.walk-returns-in_err-inner-in-Ref-clause-deep
walk-returns-in_err-inner-in-Ref-clause-deep t c =
    passed_on _ _ _ c.from_residual-in_err-inner-in-Ref.ensures.1 (λ is. in_named c.args.setting.now.text.now c.args.setting.now.rules.now.bodies c.args.room _ c.args.setting.now.depth c.args.c _ _ (ap tree_of c.in-Ref.is) c.in_ok-inside.ensures.left (c.in_err-inner-in-Ref.ensures.deep is))
