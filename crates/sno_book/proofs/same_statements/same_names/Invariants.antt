use Rattle.std.proofs.Common.{◌≡◌, drop}
use Rattle.std.specs.Cmp.Lexicographic.{pointwise}
use Rattle.sno_pattern.specs.Identifiers.{same}
use Rattle.sno_book.proofs.same_statements.same_names.Given as goal

-- the rest compares as the whole does
abbrev pub invariant-loop-place : goal.invariant-loop-place
invariant-loop-place l = pointwise same l.one l.other ≡ pointwise same (drop l.place l.one) (drop l.place l.other)
