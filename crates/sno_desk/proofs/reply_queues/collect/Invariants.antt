use Rattle.std.proofs.Common.{◌≡◌, ◌<◌, ◌≤◌, ℕ, length, get_or}
use Rattle.std.specs.Prelude.{Some}
use Rattle.sno_desk.proofs.reply_queues.collect.Given as goal

-- the replies of the seats so far were taken, and nothing else has changed
abbrev pub invariant-loop-seat : goal.invariant-loop-seat
invariant-loop-seat g l = record {
  as_many : length l.queues.items ≡ l.seat-index;
  taken : (k : ℕ) (d : _) (e : _) → k < l.seat-index → (get_or l.fn.seats k d).replies ≡ Some (get_or l.queues.items k e).items;
  same : (k : ℕ) (d : _) → k < l.seat-index → (get_or l.seats k d).accepted ≡ (get_or l.fn.seats k d).accepted;
  same_view : (k : ℕ) (d : _) → k < l.seat-index → (get_or l.seats k d).seen ≡ (get_or l.fn.seats k d).seen;
  rest : (k : ℕ) (d : _) → l.seat-index ≤ k → get_or l.seats k d ≡ get_or l.fn.seats k d;
}
