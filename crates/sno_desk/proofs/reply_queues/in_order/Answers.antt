use Rattle.std.proofs.Common.{[], length, map}
use Rattle.std.proofs.lemmas.List.{append-nil}
use Rattle.sno_desk.proofs.Turns.{deals_none}
use Rattle.sno_desk.proofs.reply_queues.in_order.Goals as goal

pub returns-clause-dealt : goal.returns-clause-dealt
returns-clause-dealt c =
    let none = deals_none (length c.args.queues.now.items) 0 (map (λ q. q.items) c.loop-job.queues.items) in
    rw append-nil at (c.loop-job.invariant.order [] none)
