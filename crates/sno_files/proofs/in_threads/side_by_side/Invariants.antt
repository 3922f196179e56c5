-- What the places have of results so far is of calls, as the results that are left are.
use Rattle.std.proofs.Common.{◌≡◌, ℕ, ◌<◌, All, length, slice_index_or}
use Rattle.sno_files.specs.InThreads.{IsBegun, IsCalled}
use Rattle.sno_files.proofs.in_threads.side_by_side.Given as goal

abbrev pub invariant-loop-results : goal.invariant-loop-results
invariant-loop-results g l =
    (length l.places ≡ length l.initial.places)
    × ((j : ℕ) (d : _) → j < length l.initial.places → IsBegun g.F.Fn l.f (slice_index_or l.initial.places j d) (slice_index_or l.places j d))
    × All (λ list. All (IsCalled g.F.Fn l.f l.initial.places) list.items) l.results-iterator.rest.items
