-- The assignments so far are those of the list that the last of their entries begins.
use Rattle.std.proofs.Common.{◌≡◌, ◌≤◌, length, vec_capacity}
use Rattle.sno_machine.specs.History.{conds_at}
use Rattle.sno_machine.proofs.run.conditions.put_in_order.Given as goal

abbrev pub invariant-loop-place : goal.invariant-loop-place
invariant-loop-place l = record {
  list : l.gathered.items ≡ conds_at l.entries l.list;
  few : length l.gathered.items ≤ l.place;
  room : length l.entries ≤ vec_capacity l.gathered;
  inside : l.place ≤ length l.entries;
  number : l.list ≤ l.place;
}
