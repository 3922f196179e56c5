-- The events so far and what the remaining ones become are together all.
use Rattle.std.proofs.Common.{◌≡◌, ◌++◌, drop}
use Rattle.sno_trace.specs.Noted.{assign_now}
use Rattle.sno_trace.proofs.lists.assign_now.Given as goal

abbrev pub invariant-loop-event : goal.invariant-loop-event
invariant-loop-event l = l.all.items ++ assign_now l.name l.start (drop l.event-index l.events) ≡ assign_now l.name l.start l.events
