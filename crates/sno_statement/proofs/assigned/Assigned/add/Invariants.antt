-- The variables so far are the first ones.
use Rattle.std.proofs.Common.{◌≡◌, ◌≤◌, [], length, take}
use Rattle.sno_statement.proofs.assigned.Assigned.add.Given as goal

abbrev pub invariant-loop-place : goal.invariant-loop-place
invariant-loop-place l = record {
  first : l.fn.self ≡ [] → l.self-inside.list.items ≡ take l.place l.lasts;
  inside : l.place ≤ length l.lasts;
}
