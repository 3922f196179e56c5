use Rattle.std.proofs.Common.{◌≡◌, ◌<◌, ℕ}
use Rattle.std.specs.Prelude.{slice_get}
use Rattle.sno_desk.proofs.openings.is_same.Given as goal

-- the rows so far are the same
abbrev pub invariant-loop-place : goal.invariant-loop-place
invariant-loop-place l = (i : ℕ) → i < l.place → slice_get l.one.texts i ≡ slice_get l.other.texts i
