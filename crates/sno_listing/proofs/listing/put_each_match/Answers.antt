-- The match at a place is put, and those after it are left.
use Rattle.std.proofs.Common.{sym}
use Rattle.sno_statement.specs.MatchLists.{match_lent}
use Rattle.sno_listing.specs.Listing.{match_lines}
use Rattle.sno_listing.proofs.ListingLemmas.{row_step}
use Rattle.sno_listing.proofs.listing.put_each_match.Goals as goal

pub loop-place-preserved : goal.loop-place-preserved
loop-place-preserved c =
    row_step match_lines c.loop-place.out.items c.put_one_match.new.out.items _ c.args.matches.now c.loop-place.place (match_lent c.in-Some.one)
    (sym c.in-Some.ensures) c.in_ok-put_one_match-in-Some.ensures c.loop-place.invariant
