-- With the parentheses that are open now, the walk over what is left finds the ends.
use Rattle.std.proofs.Common.{◌≡◌, ◌+◌, ◌≤◌, drop}
use Rattle.sno_pattern.specs.Ends.{bal_ends}
use Rattle.sno_primitives.specs.Walks.{walk}
use Rattle.sno_primitives.proofs.balance.walk_balanced.Given as goal

abbrev pub invariant-loop-passed : goal.invariant-loop-passed
invariant-loop-passed l = record {
  found : bal_ends l.text l.c ≡ walk (drop l.passed l.rest) l.depth (l.c + l.passed);
  few : l.depth ≤ l.passed;
}
