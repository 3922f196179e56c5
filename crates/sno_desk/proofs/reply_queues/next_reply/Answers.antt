use Rattle.std.proofs.Common.{◌≡◌, ◌∷◌}
use Rattle.sno_desk.proofs.Turns.{taken_in_turn, turns_in_turn}
use Rattle.sno_desk.proofs.reply_queues.next_reply.Goals as goal

pub returns-clause-order : goal.returns-clause-order
returns-clause-order c replies d =
    let was : c.args.queues.now.items ≡ c.unwrap-first.result ∷ c.pop_front.new.self.items = rw c.unwrap-first.ensures at c.pop_front.ensures.items in
    let one : c.unwrap-first.result.items ≡ c.unwrap-reply.result ∷ c.pop_front-2.new.self.items = rw c.unwrap-reply.ensures at c.pop_front-2.ensures.items in
    taken_in_turn (λ q. q.items) c.args.queues.now.items c.pop_front.new.self.items c.push_back_reserved.new.self.items c.unwrap-first.result c.pop_front-2.new.self
    c.unwrap-reply.result replies was one c.push_back_reserved.ensures.items d

pub returns-clause-turns : goal.returns-clause-turns
returns-clause-turns c job jobs h =
    let was : c.args.queues.now.items ≡ c.unwrap-first.result ∷ c.pop_front.new.self.items = rw c.unwrap-first.ensures at c.pop_front.ensures.items in
    let one : c.unwrap-first.result.items ≡ c.unwrap-reply.result ∷ c.pop_front-2.new.self.items = rw c.unwrap-reply.ensures at c.pop_front-2.ensures.items in
    turns_in_turn (λ q. q.items) c.args.queues.now.items c.pop_front.new.self.items c.push_back_reserved.new.self.items c.unwrap-first.result c.pop_front-2.new.self
    c.unwrap-reply.result job jobs was one c.push_back_reserved.ensures.items h
