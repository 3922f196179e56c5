-- The reports so far are those of the files so far, and there is room for the others.
use Rattle.std.proofs.Common.{◌≡◌, ◌≤◌, ◌-◌, length, map, take, vec_capacity, vec_len}
use Rattle.sno_edit.specs.Files.{AreFilesEnds}
use Rattle.sno_edit.specs.Rules.{rules_seen}
use Rattle.sno_edit.specs.declared.batches.TheConstants.{BATCH}
use Rattle.sno_edit.proofs.files.edit_files.Given as goal

abbrev pub invariant-loop-begin : goal.invariant-loop-begin
invariant-loop-begin g l =
    AreFilesEnds g.F.Folder.holds (rules_seen l.rules) l.fn.folder (map (λ p. p.now) (take l.begin l.paths)) l.folder l.ends.items
    × (l.begin ≤ length l.paths) × (vec_len l.ends ≡ l.begin) × (length l.paths ≤ vec_capacity l.ends) × (BATCH ≤ vec_capacity l.planned)

abbrev pub decreases-loop-begin : goal.decreases-loop-begin
decreases-loop-begin g l = length l.paths - l.begin
