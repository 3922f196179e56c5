-- The lines that are counted and those that are left are all of them, and these are fewer than bytes.
use Rattle.std.proofs.Common.{◌≡◌, ◌+◌, ◌<◌, ◌^◌, length}
use Rattle.sno_store.specs.Shown.{lines_in, lines_left}
use Rattle.sno_sealed.proofs.batches.count.Given as goal

abbrev pub invariant-loop-line : goal.invariant-loop-line
invariant-loop-line l = record {
  all : l.count + length (lines_left l._line-iterator) ≡ length (lines_in l.lines);
  few : length (lines_in l.lines) < 2 ^ 64;
}
