-- The values so far, with those that are left.
use Rattle.std.proofs.Common.{◌≡◌, ◌++◌, drop, map}
use Rattle.serde_json.specs.View.{view}
use Rattle.sno_listing.specs.JsonListing.{refused_data}
use Rattle.sno_listing.proofs.json_listing.refusal_values.Given as goal

abbrev pub invariant-loop-refusal : goal.invariant-loop-refusal
invariant-loop-refusal l = map view l.values.items ++ map refused_data (drop l.refusal-index l.refused) ≡ map refused_data l.refused
