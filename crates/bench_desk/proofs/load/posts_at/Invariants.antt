use Rattle.std.proofs.Common.{◌≡◌, length}
use Rattle.bench_desk.proofs.load.posts_at.Given as goal

-- a post for each seat so far
abbrev pub invariant-loop-seat : goal.invariant-loop-seat
invariant-loop-seat g l = length l.posts.items ≡ length l.yielded
