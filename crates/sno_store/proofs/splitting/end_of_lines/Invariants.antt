-- What is left of the bytes are the last of them, and their lines the last of the lines.
use Rattle.std.proofs.Common.{◌≡◌, ◌+◌, ◌≤◌, length}
use Rattle.sno_store.specs.Lines.{recovered, bytes_of}
use Rattle.sno_store.proofs.splitting.end_of_lines.Given as goal

abbrev pub invariant-loop-after : goal.invariant-loop-after
invariant-loop-after l = record {
  shorter : length l.rest ≤ length l.bytes;
  left : length (bytes_of (recovered l.bytes)) + length l.rest ≡ length l.bytes + length (bytes_of (recovered l.rest));
}

abbrev pub decreases-loop-after : goal.decreases-loop-after
decreases-loop-after l = length l.rest
