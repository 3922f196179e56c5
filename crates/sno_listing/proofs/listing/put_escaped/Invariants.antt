-- What is put so far, with what is left.
use Rattle.std.proofs.Common.{◌≡◌, ◌++◌, length}
use Rattle.sno_listing.specs.Listing.{escaped_text}
use Rattle.sno_listing.proofs.listing.put_escaped.Given as goal

abbrev pub invariant-loop-rest : goal.invariant-loop-rest
invariant-loop-rest l = l.out.items ++ escaped_text l.rest ≡ l.fn.out.items ++ escaped_text l.characters

abbrev pub decreases-loop-rest : goal.decreases-loop-rest
decreases-loop-rest l = length l.rest
