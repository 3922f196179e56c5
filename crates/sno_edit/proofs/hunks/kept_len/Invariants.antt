-- The lines so far are kept.
use Rattle.std.proofs.Common.{take}
use Rattle.sno_edit.specs.Hunks.{AreKept}
use Rattle.sno_edit.proofs.hunks.kept_len.Given as goal

abbrev pub invariant-loop-place : goal.invariant-loop-place
invariant-loop-place l = AreKept (take l.place l.script)
