-- No definition so far lies on a cycle.
use Rattle.std.proofs.Common.{ℕ, ◌<◌}
use Rattle.sno_pattern.specs.Tree.{trees}
use Rattle.sno_pattern.specs.Guard.{Chain}
use Rattle.sno_pattern.proofs.admission.first_cycle.Given as goal

abbrev pub invariant-loop-start : goal.invariant-loop-start
invariant-loop-start l = (j : ℕ) → j < l.start → Chain (trees l.bodies) j j → ⊥
