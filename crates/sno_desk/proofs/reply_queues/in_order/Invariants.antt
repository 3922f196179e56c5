use Rattle.std.proofs.Common.{◌≡◌, ◌≤◌, List, ◌++◌, drop, length, map}
use Rattle.std.specs.Vec.{vec_capacity}
use Rattle.std.specs.Arc.{arc_value}
use Rattle.sno_desk.specs.Replies.{Reply}
use Rattle.sno_desk.specs.Turns.{Deals, HasTurns}
use Rattle.sno_desk.proofs.reply_queues.in_order.Given as goal

-- the replies so far, and then those still in the queues, are those of all queues; the queues have one for each job
-- that is left
abbrev pub invariant-loop-job : goal.invariant-loop-job
invariant-loop-job l = record {
  order : (more : List Reply) → Deals (length l.fn.queues.items) 0 (map (λ q. q.items) l.queues.items) more
      → Deals (length l.fn.queues.items) 0 (map (λ q. q.items) l.fn.queues.items) (l.replies.items ++ more);
  turns : HasTurns (length l.fn.queues.items) 0 (map (λ q. q.items) l.queues.items) (map arc_value (drop l._job-index l.jobs));
  as_many : length l.queues.items ≡ length l.fn.queues.items;
  so_far : length l.replies.items ≡ l._job-index;
  room : length l.jobs ≤ vec_capacity l.replies;
}
