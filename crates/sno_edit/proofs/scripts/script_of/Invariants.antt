-- The script so far, with the lines that are left, has the lines of both texts; the lines that are left get fewer.
use Rattle.std.proofs.Common.{◌≡◌, ◌+◌, ◌++◌, length}
use Rattle.sno_edit.specs.Scripts.{lines_in, new_lines, old_lines, seen}
use Rattle.sno_edit.proofs.scripts.script_of.Given as goal

abbrev pub invariant-loop-rest : goal.invariant-loop-rest
invariant-loop-rest l = (old_lines l.script.items ++ seen l.rest.0.now ≡ lines_in l.old) × (new_lines l.script.items ++ seen l.rest.1.now ≡ lines_in l.new)

abbrev pub decreases-loop-rest : goal.decreases-loop-rest
decreases-loop-rest l = length l.rest.0.now + length l.rest.1.now
