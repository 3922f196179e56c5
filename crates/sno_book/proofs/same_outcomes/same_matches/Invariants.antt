use Rattle.std.proofs.Common.{◌≡◌, drop}
use Rattle.std.specs.Cmp.Lexicographic.{pointwise}
use Rattle.sno_book.specs.SameEntries.{same_match}
use Rattle.sno_book.proofs.same_outcomes.same_matches.Given as goal

-- the rest compares as the whole does
abbrev pub invariant-loop-place : goal.invariant-loop-place
invariant-loop-place l = pointwise same_match l.one l.other ≡ pointwise same_match (drop l.place l.one) (drop l.place l.other)
