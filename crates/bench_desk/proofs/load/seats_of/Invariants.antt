use Rattle.std.proofs.Common.{◌≡◌, length}
use Rattle.bench_desk.proofs.load.seats_of.Given as goal

-- the seat of each post so far
abbrev pub invariant-loop-post : goal.invariant-loop-post
invariant-loop-post g l = length l.seats.items ≡ length l.yielded
