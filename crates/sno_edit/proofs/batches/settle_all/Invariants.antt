-- The reports so far, with those that are left, are the same.
use Rattle.std.proofs.Common.{◌≡◌, ◌≤◌, ◌+◌, ◌++◌, drop, vec_len, vec_capacity}
use Rattle.sno_edit.specs.Batches.{settled}
use Rattle.sno_edit.proofs.batches.settle_all.Given as goal

abbrev pub invariant-loop-file : goal.invariant-loop-file
invariant-loop-file l =
    (l.ends.items ++ settled (drop l.file-index l.planned) l.left ≡ l.fn.ends.items ++ settled l.planned l.results)
    × (vec_len l.ends ≡ vec_len l.fn.ends + l.file-index) × (vec_capacity l.fn.ends ≤ vec_capacity l.ends)
