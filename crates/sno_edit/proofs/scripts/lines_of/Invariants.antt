-- The lines so far, with those of the rest, are the lines of the text; the rest gets shorter.
use Rattle.std.proofs.Common.{◌≡◌, ◌++◌, length}
use Rattle.sno_edit.specs.Scripts.{lines_in, seen}
use Rattle.sno_edit.proofs.scripts.lines_of.Given as goal

abbrev pub invariant-loop-rest : goal.invariant-loop-rest
invariant-loop-rest l = seen l.lines.items ++ lines_in l.rest ≡ lines_in l.text

abbrev pub decreases-loop-rest : goal.decreases-loop-rest
decreases-loop-rest l = length l.rest
