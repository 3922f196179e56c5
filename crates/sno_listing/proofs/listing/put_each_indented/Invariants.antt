-- What is put so far, with what is left.
use Rattle.std.proofs.Common.{◌≡◌, ◌++◌, drop}
use Rattle.std.specs.List.{flat_map}
use Rattle.sno_listing.specs.Listing.{indented}
use Rattle.sno_listing.proofs.listing.put_each_indented.Given as goal

abbrev pub invariant-loop-place : goal.invariant-loop-place
invariant-loop-place l = l.out.items ++ flat_map (indented l.blanks) (drop l.place l.bindings) ≡ l.fn.out.items ++ flat_map (indented l.blanks) l.bindings
