-- The snapshots so far, and those of the names that are left, are all that is asked for.
use Rattle.std.proofs.Common.{◌≡◌, ◌++◌, drop, map}
use Rattle.std.specs.Option.{option_map}
use Rattle.sno_published.specs.Snapshots.{snapshots_of}
use Rattle.sno_published.proofs.snapshots.snapshots_of.Given as goal

abbrev pub invariant-loop-name : goal.invariant-loop-name
invariant-loop-name g l =
    option_map (λ more. l.taken.items ++ more) (snapshots_of g.L.Naming.opening l.table (map (λ n. n.now) (drop l.name-index l.names))) ≡ snapshots_of g.L.Naming.opening l.table (map (λ n. n.now) l.names)
