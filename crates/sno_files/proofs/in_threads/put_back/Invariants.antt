-- Each place has its old result or one of its number; those that are left are among all.
use Rattle.std.proofs.Common.{◌≡◌, ℕ, ◌<◌, All, Contains, length, slice_index_or}
use Rattle.sno_files.specs.InThreads.{IsPut}
use Rattle.sno_files.proofs.in_threads.put_back.Given as goal

abbrev pub invariant-loop-one : goal.invariant-loop-one
invariant-loop-one g l =
    (length l.places ≡ length l.initial.places)
    × ((j : ℕ) (d : _) → j < length l.initial.places → IsPut l.fn.results.items j (slice_index_or l.initial.places j d) (slice_index_or l.places j d))
    × All (Contains l.fn.results.items) l.one-iterator.rest.items
