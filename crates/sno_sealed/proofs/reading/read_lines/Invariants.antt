-- The lines that were read have the payloads, and those that are left come after them.
use Rattle.std.proofs.Common.{◌≡◌, ◌+◌, ◌++◌, ◌<◌, ◌^◌, List, ℕ, length}
use Rattle.sno_store.specs.Shown.{lines_in, lines_left}
use Rattle.sno_sealed.specs.Chains.{IsChain}
use Rattle.sno_sealed.proofs.reading.read_lines.Given as goal

abbrev pub invariant-loop-line : goal.invariant-loop-line
invariant-loop-line l = record {
  few : length (lines_in l.lines) < 2 ^ 64;
  done : List (List ℕ);
  all : done ++ lines_left l.line-iterator ≡ lines_in l.lines;
  read : IsChain done (lines_in l.reader.payloads) l.reader.chain;
}
