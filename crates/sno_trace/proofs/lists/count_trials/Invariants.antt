-- The trials so far and those that are left are together all.
use Rattle.std.proofs.Common.{◌≡◌, ◌+◌, ◌≤◌, drop}
use Rattle.sno_trace.specs.Steps.{trials_of}
use Rattle.sno_trace.proofs.lists.count_trials.Given as goal

abbrev pub invariant-loop-event : goal.invariant-loop-event
invariant-loop-event l = record {
  counted : l.count + trials_of (drop l.event-index l.events) ≡ trials_of l.events;
  few : l.count ≤ l.event-index;
}
