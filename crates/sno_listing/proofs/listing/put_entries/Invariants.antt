-- What is put so far, with what is left.
use Rattle.std.proofs.Common.{◌≡◌, ◌++◌, drop}
use Rattle.sno_listing.specs.Listing.{entries_from}
use Rattle.sno_listing.proofs.listing.put_entries.Given as goal

abbrev pub invariant-loop-index : goal.invariant-loop-index
invariant-loop-index l = l.out.items ++ entries_from l.index (drop l.index l.journal) ≡ l.fn.out.items ++ entries_from 0 l.journal
