-- There is a slot for each of the paths so far.
use Rattle.std.proofs.Common.{◌≡◌, length}
use Rattle.sno_files.proofs.held.HeldFiles.of.Given as goal

abbrev pub invariant-loop-place : goal.invariant-loop-place
invariant-loop-place g l = length l.slots.items ≡ l.place
