-- One result for each so far, and room for the others.
use Rattle.std.proofs.Common.{◌≡◌, ◌≤◌, ◌+◌, length, vec_len, vec_capacity}
use Rattle.sno_files.proofs.held.replace_each.Given as goal

abbrev pub invariant-loop-file : goal.invariant-loop-file
invariant-loop-file g l = (length l.results.items ≡ length l.fn.results.items + l.file-index) × (vec_len l.results ≡ vec_len l.fn.results + l.file-index) × (vec_capacity l.fn.results ≤ vec_capacity l.results)
