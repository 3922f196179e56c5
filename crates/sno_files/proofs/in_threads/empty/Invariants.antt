-- The places so far have no result, the others are as they were.
use Rattle.std.proofs.Common.{◌≡◌, ℕ, ◌<◌, ◌≤◌, length, slice_index_or}
use Rattle.sno_files.specs.InThreads.{IsEmptied}
use Rattle.sno_files.proofs.in_threads.empty.Given as goal

abbrev pub invariant-loop-i : goal.invariant-loop-i
invariant-loop-i g l =
    (length l.places ≡ length l.initial.places)
    × ((j : ℕ) (d : _) → l.i ≤ j → slice_index_or l.places j d ≡ slice_index_or l.initial.places j d)
    × ((j : ℕ) (d : _) → j < l.i → IsEmptied (slice_index_or l.initial.places j d) (slice_index_or l.places j d))
