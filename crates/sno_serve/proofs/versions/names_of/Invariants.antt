-- The names so far, with those that are left, are all.
use Rattle.std.proofs.Common.{◌≡◌, ◌++◌, drop, map}
use Rattle.sno_book.specs.Openings.{names_in}
use Rattle.sno_serve.proofs.versions.names_of.Given as goal

abbrev pub invariant-loop-place : goal.invariant-loop-place
invariant-loop-place l = map (λ n. n.now) l.names.items ++ names_in (drop l.place l.opening.texts) ≡ names_in l.opening.texts
