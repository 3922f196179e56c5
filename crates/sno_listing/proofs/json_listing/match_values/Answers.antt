-- The value of the match at a place is added, and those after it are left.
use Rattle.std.proofs.Common.{sym}
use Rattle.sno_statement.specs.MatchLists.{match_lent}
use Rattle.sno_listing.specs.JsonListing.{match_data}
use Rattle.sno_listing.proofs.JsonListingLemmas.{value_step}
use Rattle.sno_listing.proofs.json_listing.match_values.Goals as goal

pub loop-place-preserved : goal.loop-place-preserved
loop-place-preserved c =
    value_step match_data c.loop-place.values.items _ c.in_ok-match_value-in-Some.field-0 _ c.args.matches.now c.loop-place.place (match_lent c.in-Some.one)
    (sym c.in-Some.ensures) c.in_ok-push-in-Some.ensures.items c.in_ok-match_value-in-Some.ensures c.loop-place.invariant
