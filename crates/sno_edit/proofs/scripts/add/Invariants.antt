-- What the lines so far add to both texts.
use Rattle.std.proofs.Common.{◌≡◌, ◌++◌, take}
use Rattle.sno_edit.specs.Scripts.{seen, new_part, new_lines, old_part, old_lines}
use Rattle.sno_edit.proofs.scripts.add.Given as goal

abbrev pub invariant-loop-line : goal.invariant-loop-line
invariant-loop-line l =
    (old_lines l.script.items ≡ old_lines l.fn.script.items ++ old_part l.mark (seen (take l.line-index l.lines)))
    × (new_lines l.script.items ≡ new_lines l.fn.script.items ++ new_part l.mark (seen (take l.line-index l.lines)))
