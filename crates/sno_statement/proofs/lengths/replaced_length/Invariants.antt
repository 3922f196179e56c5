-- What is counted so far, with the matches that are left, gives the whole length.
use Rattle.std.proofs.Common.{◌≡◌, ◌+◌, ◌≤◌, drop, length}
use Rattle.sno_statement.specs.Passes.{replaced}
use Rattle.sno_statement.proofs.lengths.replaced_length.Given as goal

abbrev pub invariant-loop-place : goal.invariant-loop-place
invariant-loop-place l = record {
  counted : l.total + length (replaced l.parts l.subject l.cursor (drop l.place l.matches)) ≡ length (replaced l.parts l.subject 0 l.matches);
  few : l.total ≤ 65536;
}
