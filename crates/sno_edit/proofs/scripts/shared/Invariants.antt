-- The lines so far are the same.
use Rattle.std.proofs.Common.{◌≡◌, take}
use Rattle.sno_edit.specs.Scripts.{seen}
use Rattle.sno_edit.proofs.scripts.shared.Given as goal

abbrev pub invariant-loop-place : goal.invariant-loop-place
invariant-loop-place l = seen (take l.place l.old) ≡ seen (take l.place l.new)
