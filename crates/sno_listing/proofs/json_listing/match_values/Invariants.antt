-- The values so far, with those that are left.
use Rattle.std.proofs.Common.{◌≡◌, ◌++◌, drop, map}
use Rattle.serde_json.specs.View.{view}
use Rattle.sno_listing.specs.JsonListing.{match_data}
use Rattle.sno_listing.proofs.json_listing.match_values.Given as goal

abbrev pub invariant-loop-place : goal.invariant-loop-place
invariant-loop-place l = map view l.values.items ++ map match_data (drop l.place l.matches) ≡ map match_data l.matches
