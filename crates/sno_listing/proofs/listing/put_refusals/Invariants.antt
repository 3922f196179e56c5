-- What is put so far, with what is left.
use Rattle.std.proofs.Common.{◌≡◌, ◌++◌, drop}
use Rattle.std.specs.List.{flat_map}
use Rattle.sno_listing.specs.Listing.{refused_line}
use Rattle.sno_listing.proofs.listing.put_refusals.Given as goal

abbrev pub invariant-loop-refusal : goal.invariant-loop-refusal
invariant-loop-refusal l = l.out.items ++ flat_map refused_line (drop l.refusal-index l.refused) ≡ l.fn.out.items ++ flat_map refused_line l.refused
