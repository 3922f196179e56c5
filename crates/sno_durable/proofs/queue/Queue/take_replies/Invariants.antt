-- What was taken and what is left to be taken are together all, and so are the replies that go on waiting.
use Rattle.std.proofs.Common.{◌≡◌, ◌++◌}
use Rattle.std.specs.Vec.Iter.{into_iter_items}
use Rattle.sno_durable.specs.Queued.{shown_at, waiting_at}
use Rattle.sno_durable.proofs.queue.Queue.take_replies.Given as goal

abbrev pub invariant-loop-held : goal.invariant-loop-held
invariant-loop-held l = record {
  shown : l.replies.items ++ shown_at l.fn.self.next (into_iter_items l.held-iterator) ≡ l.fn.replies.items ++ shown_at l.fn.self.next l.fn.self.replies.items;
  waiting : l.self.replies.items ++ waiting_at l.fn.self.next (into_iter_items l.held-iterator) ≡ waiting_at l.fn.self.next l.fn.self.replies.items;
  next : l.self.next ≡ l.fn.self.next;
  records : l.self.records ≡ l.fn.self.records;
}
