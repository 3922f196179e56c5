-- The lines so far are written.
use Rattle.std.proofs.Common.{◌≡◌, ◌++◌, take}
use Rattle.std.specs.List.{flat_map}
use Rattle.sno_edit.specs.Hunks.{line_text}
use Rattle.sno_edit.proofs.hunks.put_lines.Given as goal

abbrev pub invariant-loop-line : goal.invariant-loop-line
invariant-loop-line l = l.diff.items ≡ l.fn.diff.items ++ flat_map (line_text l.coloured) (take l.line-index l.lines)
