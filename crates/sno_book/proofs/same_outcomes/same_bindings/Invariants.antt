use Rattle.std.proofs.Common.{◌≡◌, drop}
use Rattle.sno_book.specs.SameEntries.{same_bound}
use Rattle.sno_book.proofs.same_outcomes.same_bindings.Given as goal

-- the rest compares as the whole does
abbrev pub invariant-loop-place : goal.invariant-loop-place
invariant-loop-place l = same_bound l.one l.other ≡ same_bound (drop l.place l.one) (drop l.place l.other)
