-- The events so far and what the remaining ones become are together all.
use Rattle.std.proofs.Common.{◌≡◌, ◌++◌, drop}
use Rattle.sno_trace.specs.Noted.{leave_each}
use Rattle.sno_trace.proofs.lists.leave_each.Given as goal

abbrev pub invariant-loop-event : goal.invariant-loop-event
invariant-loop-event l = l.all.items ++ leave_each l.below l.number l.start (drop l.event-index l.events) ≡ leave_each l.below l.number l.start l.events
