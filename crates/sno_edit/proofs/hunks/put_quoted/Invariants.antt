-- The characters so far are written.
use Rattle.std.proofs.Common.{◌≡◌, ◌++◌, string_bytes}
use Rattle.std.specs.List.{flat_map}
use Rattle.sno_edit.specs.Hunks.{quoted_character}
use Rattle.sno_edit.proofs.hunks.put_quoted.Given as goal

abbrev pub invariant-loop-character : goal.invariant-loop-character
invariant-loop-character l = string_bytes l.diff ≡ string_bytes l.fn.diff ++ flat_map quoted_character l.yielded
