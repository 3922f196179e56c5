-- What was added and what is left to add are together all; nothing has failed the whole match so far.
use Rattle.std.proofs.Common.{◌≡◌, ◌++◌, drop}
use Rattle.std.specs.List.{list_any}
use Rattle.sno_pattern.specs.Events.{cut, put_before}
use Rattle.sno_eval.specs.Steps.{is_halt}
use Rattle.sno_eval.proofs.events.add_after.Given as goal

abbrev pub invariant-loop-event : goal.invariant-loop-event
invariant-loop-event l = record {
  added : l.all.items ++ cut (put_before l.conds (drop l.event-index l.later)) ≡ l.initial.all.items ++ cut (put_before l.conds l.later);
  halted : list_any is_halt (drop l.event-index l.later) ≡ list_any is_halt l.later;
}
