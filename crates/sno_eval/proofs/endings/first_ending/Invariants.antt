-- The events that are left, with the assignments that were added, lead to the same ending as all events.
use Rattle.std.proofs.Common.{◌≡◌, List, ◌++◌, drop, map}
use Rattle.sno_pattern.specs.Outcome.{Tried, cut_scan, found_in}
use Rattle.sno_eval.proofs.endings.first_ending.Given as goal

abbrev pub invariant-loop-event : goal.invariant-loop-event
invariant-loop-event l =
    (others : List Tried) → found_in l.initial.sets.items (cut_scan (map (λ e. (l.start, e)) l.events ++ others)) ≡ found_in l.sets.items (cut_scan (map (λ e. (l.start, e)) (drop l.event-index l.events) ++ others))
