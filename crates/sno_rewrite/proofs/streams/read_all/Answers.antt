-- A piece that is taken but not kept, after what was read before it.
use Rattle.std.proofs.Common.{rules, ◌++◌, arith}
use Rattle.std.proofs.KnownBytes.{Consumes-trans}
use Rattle.std.proofs.lemmas.List.{length-append}
use Rattle.sno_rewrite.proofs.streams.read_all.Goals as goal

pub returns-in_err-count-clause-taken : goal.returns-in_err-count-clause-taken
returns-in_err-count-clause-taken g c =
    let before = c.loop-piece.invariant in
    let piece = c.read_piece.ensures.taken in (
      c.loop-piece.bytes.items ++ piece.0,
      Consumes-trans _ _ _ c.loop-piece.bytes.items piece.0 before.consumed piece.1,
      omega (arith, length-append c.loop-piece.bytes.items piece.0, piece.2),
    )

pub returns-clause-taken : goal.returns-clause-taken
returns-clause-taken g c = search rules

pub returns-clause-fault : goal.returns-clause-fault
returns-clause-fault g c = search rules
