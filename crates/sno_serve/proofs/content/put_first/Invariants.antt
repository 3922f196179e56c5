-- What is written so far, with what is left, up to the limit.
use Rattle.std.proofs.Common.{◌≡◌, ◌+◌, ◌++◌, drop, take}
use Rattle.std.specs.Option.{option_map}
use Rattle.sno_serve.specs.Excerpts.{rows_of}
use Rattle.sno_serve.proofs.Contents.{rows_tokens}
use Rattle.sno_serve.proofs.content.put_first.Given as goal

abbrev pub invariant-loop-place : goal.invariant-loop-place
invariant-loop-place l =
    (l.out.tokens ++ rows_tokens (take l.left (rows_of (option_map (λ n. n.now) l.name) (l.from + l.place) (drop l.place l.entries)))
    ≡ l.fn.out.tokens ++ rows_tokens (take l.most (rows_of (option_map (λ n. n.now) l.name) l.from l.entries)))
    × (l.out.before ≡ l.fn.out.before)
