-- The characters so far are printed as themselves.
use Rattle.std.proofs.Common.{take}
use Rattle.std.specs.Prelude.{IsTrue}
use Rattle.std.specs.List.{list_all}
use Rattle.sno_listing.specs.Listing.{is_plain}
use Rattle.sno_listing.proofs.listing.plain_len.Given as goal

abbrev pub invariant-loop-place : goal.invariant-loop-place
invariant-loop-place l = IsTrue (list_all is_plain (take l.place l.characters))
