-- The hunks so far are written. With those of the rest they are the hunks of the script.
use Rattle.std.proofs.Common.{◌≡◌, ◌+◌, ◌≤◌, ◌++◌, List, length}
use Rattle.std.specs.List.{flat_map}
use Rattle.sno_edit.specs.Hunks.{AreHunks, Hunk, hunk_text}
use Rattle.sno_edit.proofs.hunks.put_hunks.Given as goal

abbrev pub invariant-loop-place : goal.invariant-loop-place
invariant-loop-place l = record {
  old_fits : l.left.before.old + length l.left.script.now ≤ length l.script;
  new_fits : l.left.before.new + length l.left.script.now ≤ length l.script;
  hunks : List Hunk;
  written : l.diff.items ≡ l.fn.diff.items ++ flat_map (hunk_text l.coloured) hunks;
  parts : (later : List Hunk) → AreHunks l.left.before.old l.left.before.new later l.left.script.now → AreHunks 0 0 (hunks ++ later) l.script;
}

abbrev pub decreases-loop-place : goal.decreases-loop-place
decreases-loop-place l = length l.left.script.now
