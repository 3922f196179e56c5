-- The lines that were read have sums that are right, and those that are left come after them.
use Rattle.std.proofs.Common.{◌≡◌, ◌+◌, ◌++◌, ◌<◌, ◌^◌, List, ℕ, length}
use Rattle.sno_store.specs.Lines.{bytes_of, recovered}
use Rattle.sno_store.specs.Shown.{lines_in, lines_left}
use Rattle.sno_sealed.specs.Chains.{IsChain}
use Rattle.sno_sealed.proofs.fronts.undamaged.Given as goal

abbrev pub invariant-loop-line : goal.invariant-loop-line
invariant-loop-line l = record {
  few : length (recovered l.fn.bytes) < 2 ^ 64;
  fits : length (bytes_of (recovered l.fn.bytes)) < 2 ^ 64;
  done : List (List ℕ);
  all : done ++ lines_left l.line-iterator ≡ recovered l.fn.bytes;
  read : IsChain done (lines_in l.reader.payloads) l.reader.chain;
  end : l.end ≡ length (bytes_of done);
}
