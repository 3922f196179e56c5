-- One new file for each so far, and room for the others.
use Rattle.std.proofs.Common.{◌≡◌, ◌≤◌, ◌+◌, vec_len, vec_capacity}
use Rattle.sno_files.proofs.synced.stage_all.Given as goal

abbrev pub invariant-loop-file : goal.invariant-loop-file
invariant-loop-file g l = (vec_len l.new ≡ vec_len l.fn.new + l.file-index) × (vec_capacity l.fn.new ≤ vec_capacity l.new)
