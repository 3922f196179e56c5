-- One place for each path so far.
use Rattle.std.proofs.Common.{◌≡◌, vec_len}
use Rattle.sno_commands.proofs.shared_files.places_of.Given as goal

abbrev pub invariant-loop-path : goal.invariant-loop-path
invariant-loop-path g l = vec_len l.places ≡ l.path-index
