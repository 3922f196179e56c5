-- The events are looked at one after the other.
use Rattle.std.proofs.Common.{◌+◌, ◌++◌, ap, sym, ◌∙◌, map, drop}
use Rattle.sno_pattern.specs.Outcome.{cut_scan, found_in}
use Rattle.sno_pattern.specs.declared.events.Event.TheVariants.{Try, Set, End, Halt}
use Rattle.sno_eval.proofs.Going.{left_at}
use Rattle.sno_eval.proofs.StartLaws.{found_tried, found_set, found_halt, found_end}
use Rattle.sno_eval.proofs.endings.first_ending.Goals as goal
use Rattle.sno_eval.proofs.endings.first_ending.Goals.{in-Try, in-Set+in_ok-push-in-Set}

pub returns-in-End : goal.returns-in-End
returns-in-End c = λ others.
    c.loop-event.invariant others
    ∙ found_end c.args.start c.loop-event.sets.items _ _ c.in-End.end _ _ others (left_at c.args.events.now c.loop-event.event-index _ (End c.in-End.end c.in-End.conds) c.loop-event-test.true c.event-item.is c.in-End.is) c.in_ok-conds-in-End.ensures

pub returns-in-Halt : goal.returns-in-Halt
returns-in-Halt c = λ others.
    c.loop-event.invariant others
    ∙ found_halt c.args.start c.loop-event.sets.items _ _ others (left_at c.args.events.now c.loop-event.event-index _ Halt c.loop-event-test.true c.event-item.is c.in-Halt.is)

pub loop-event-preserved : goal.loop-event-preserved
loop-event-preserved c =
    elim c.match-event.branch [
      | in-Try w ↦ λ others.
          c.loop-event.invariant others
          ∙ found_tried c.args.start c.loop-event.sets.items _ _ others (left_at c.args.events.now c.loop-event.event-index _ Try c.loop-event-test.true c.event-item.is w.in-Try.is)
          ∙ ap (λ v. found_in v.items (cut_scan (map (λ e. (c.args.start, e)) (drop (c.loop-event.event-index + 1) c.args.events.now) ++ others))) (sym w.sets-is)
      | in-Set+in_ok-push-in-Set w ↦ λ others.
          c.loop-event.invariant others
          ∙ found_set c.args.start c.loop-event.sets.items _ _ _ w.in-Set.assign others
          (left_at c.args.events.now c.loop-event.event-index _ (Set w.in-Set.assign) c.loop-event-test.true c.event-item.is w.in-Set.is) (ap (λ v. v.items) w.sets-is ∙ w.in_ok-push-in-Set.ensures.items)
    ]
