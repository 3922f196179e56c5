-- One result for each so far, and room for the others.
use Rattle.std.proofs.Common.{◌≡◌, ◌≤◌, ◌+◌, vec_len, vec_capacity}
use Rattle.sno_files.proofs.synced.sync_all.Given as goal

abbrev pub invariant-loop-file : goal.invariant-loop-file
invariant-loop-file g l = (vec_len l.on_disk ≡ vec_len l.fn.on_disk + l.file-index) × (vec_capacity l.fn.on_disk ≤ vec_capacity l.on_disk)
