-- The records of the next entries were taken, as many as the index of the next one has risen, and the replies are the same.
use Rattle.std.proofs.Common.{◌≡◌}
use Rattle.sno_store.specs.Shown.{lines_in}
use Rattle.sno_durable.specs.Queued.{HasGiven, HasTaken}
use Rattle.sno_durable.proofs.queue.Queue.take_records.Given as goal

abbrev pub invariant-loop : goal.invariant-loop
invariant-loop l = record {
  taken : HasTaken l.fn.records l.records l.fn.self.next l.self.next;
  given : HasGiven l.fn.self.records.entries l.self.records.entries l.fn.self.next l.self.next (lines_in l.fn.records) (lines_in l.records);
  same : l.self.replies ≡ l.fn.self.replies;
}
