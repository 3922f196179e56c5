-- What is read so far is the beginning of what the reader had.
use Rattle.std.proofs.Common.{◌≡◌, ◌-◌, ◌≤◌, length, vec_len}
use Rattle.std.specs.Io.KnownBytes.{Consumes}
use Rattle.sno_rewrite.specs.declared.streams.TheConstants.{PIECE}
use Rattle.sno_rewrite.proofs.streams.read_all.Given as goal

abbrev pub invariant-loop-piece : goal.invariant-loop-piece
invariant-loop-piece g l = record {
  consumed : Consumes (g.R.Read.remaining l.fn.reader) (g.R.Read.remaining l.reader) l.bytes.items;
  bound : vec_len l.bytes ≤ 16777217;
  whole : length l.piece ≡ PIECE;
}

abbrev pub decreases-loop-piece : goal.decreases-loop-piece
decreases-loop-piece g l = 16777217 - vec_len l.bytes
