-- One result for each so far, and room for the others.
use Rattle.std.proofs.Common.{◌≡◌, ◌≤◌, ◌+◌, length, vec_len, vec_capacity}
use Rattle.sno_files.proofs.synced.finish_all.Given as goal

abbrev pub invariant-loop-i : goal.invariant-loop-i
invariant-loop-i g l = (length l.results.items ≡ length l.fn.results.items + l.i) × (vec_len l.results ≡ vec_len l.fn.results + l.i) × (vec_capacity l.fn.results ≤ vec_capacity l.results)
