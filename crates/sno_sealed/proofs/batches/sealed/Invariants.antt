-- The lines that were sealed, and then those that are left, are the batch.
use Rattle.std.proofs.Common.{◌≡◌, ◌+◌, ◌++◌, length, decimal}
use Rattle.sno_store.specs.Shown.{lines_in, lines_left}
use Rattle.sno_store.proofs.Scans.{AreLines}
use Rattle.sno_sealed.specs.Batches.{sealed_lines, sealed_sum}
use Rattle.sno_sealed.proofs.batches.sealed.Given as goal

abbrev pub invariant-loop-payload : goal.invariant-loop-payload
invariant-loop-payload l = record {
  lines : lines_in l.batch.lines ++ sealed_lines l.batch.chain.sum l.batch.chain.lines l.first.items l.last.items (lines_left l.payload-iterator)
      ≡ sealed_lines l.fn.chain.sum l.fn.chain.lines l.first.items l.last.items (lines_in l.fn.payloads);
  sum : sealed_sum l.batch.chain.sum l.batch.chain.lines l.first.items l.last.items (lines_left l.payload-iterator)
      ≡ sealed_sum l.fn.chain.sum l.fn.chain.lines l.first.items l.last.items (lines_in l.fn.payloads);
  count : l.batch.chain.lines + length (lines_left l.payload-iterator) ≡ l.fn.chain.lines + length (lines_in l.fn.payloads);
  plain : l.batch.chain.plain ≡ l.fn.chain.plain;
  are : AreLines (lines_left l.payload-iterator);
}
