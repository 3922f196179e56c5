-- What was added and what is left to add are together all; nothing has ended the match so far.
use Rattle.std.proofs.Common.{◌≡◌, ◌++◌, drop, map}
use Rattle.std.specs.List.{list_any}
use Rattle.sno_trace.specs.Steps.{is_ending}
use Rattle.sno_trace.specs.Promise.{until_ended}
use Rattle.sno_trace.proofs.scanning.add_start.Given as goal

abbrev pub invariant-loop-event : goal.invariant-loop-event
invariant-loop-event l = record {
  added : l.all.items ++ until_ended (map (λ x. (l.start, x)) (drop l.event-index l.events)) ≡ l.initial.all.items ++ until_ended (map (λ x. (l.start, x)) l.events);
  ended : list_any is_ending (drop l.event-index l.events) ≡ list_any is_ending l.events;
}
