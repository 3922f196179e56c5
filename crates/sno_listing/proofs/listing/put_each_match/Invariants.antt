-- What is put so far, with what is left.
use Rattle.std.proofs.Common.{◌≡◌, ◌++◌, drop}
use Rattle.std.specs.List.{flat_map}
use Rattle.sno_listing.specs.Listing.{match_lines}
use Rattle.sno_listing.proofs.listing.put_each_match.Given as goal

abbrev pub invariant-loop-place : goal.invariant-loop-place
invariant-loop-place l = l.out.items ++ flat_map match_lines (drop l.place l.matches) ≡ l.fn.out.items ++ flat_map match_lines l.matches
