-- The paths so far are different.
use Rattle.std.proofs.Common.{map, take}
use Rattle.sno_edit.specs.Batches.{Differ}
use Rattle.sno_edit.proofs.batches.batch_len.Given as goal

abbrev pub invariant-loop-count : goal.invariant-loop-count
invariant-loop-count l = Differ (map (λ p. p.now) (take l.count l.paths))
