-- The places so far are done, the others are as they were.
use Rattle.std.proofs.Common.{◌≡◌, ℕ, ◌<◌, ◌≤◌, length, slice_index_or}
use Rattle.sno_files.specs.InThreads.{IsBegun, IsDone}
use Rattle.sno_files.proofs.in_threads.fill_rest.Given as goal

abbrev pub invariant-loop-i : goal.invariant-loop-i
invariant-loop-i g l =
    (length l.places ≡ length l.initial.places)
    × ((j : ℕ) (d : _) → l.i ≤ j → slice_index_or l.places j d ≡ slice_index_or l.initial.places j d)
    × ((j : ℕ) (d : _) (old : _) → j < l.i → IsBegun g.F.Fn l.f old (slice_index_or l.initial.places j d) → IsDone g.F.Fn l.f old (slice_index_or l.places j d))
