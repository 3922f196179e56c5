-- The paths so far, with those of what is left, are the paths of the list; less is left each time.
use Rattle.std.proofs.Common.{◌≡◌, ◌++◌, map}
use Rattle.std.specs.Option.{option_map}
use Rattle.sno_files.specs.Lists.{AreUtf8, bytes_left, named, paths_of, pieces_left}
use Rattle.sno_files.proofs.lists.paths_in.Given as goal

abbrev pub invariant-loop-left : goal.invariant-loop-left
invariant-loop-left l = (map (λ p. p.now) l.paths.items ++ named (pieces_left l.end (option_map (λ b. b.now) l.left)) ≡ paths_of l.end l.list) × AreUtf8 (map (λ p. p.now) l.paths.items)

abbrev pub decreases-loop-left : goal.decreases-loop-left
decreases-loop-left l = bytes_left (option_map (λ b. b.now) l.left)
