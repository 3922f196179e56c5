-- The last change so far is before this place.
use Rattle.std.proofs.Common.{◌<◌, ◌≤◌}
use Rattle.sno_edit.proofs.hunks.shown_len.Given as goal

abbrev pub invariant-loop-place : goal.invariant-loop-place
invariant-loop-place l = (0 < l.end) × (l.end ≤ l.place)
