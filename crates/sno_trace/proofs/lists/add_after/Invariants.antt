-- What was added and what is left to add are together all; nothing has ended the list so far.
use Rattle.std.proofs.Common.{◌≡◌, ◌++◌, drop}
use Rattle.std.specs.List.{list_any}
use Rattle.sno_trace.specs.Noted.{cut, put_before}
use Rattle.sno_trace.specs.Steps.{is_last}
use Rattle.sno_trace.proofs.lists.add_after.Given as goal

abbrev pub invariant-loop-event : goal.invariant-loop-event
invariant-loop-event l = record {
  added : l.all.items ++ cut (put_before l.conds (drop l.event-index l.later)) ≡ l.initial.all.items ++ cut (put_before l.conds l.later);
  ended : list_any is_last (drop l.event-index l.later) ≡ list_any is_last l.later;
}
