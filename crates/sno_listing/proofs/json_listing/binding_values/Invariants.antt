-- The values so far, with those that are left.
use Rattle.std.proofs.Common.{◌≡◌, ◌++◌, drop, map}
use Rattle.serde_json.specs.View.{view}
use Rattle.sno_listing.specs.JsonListing.{binding_data}
use Rattle.sno_listing.proofs.json_listing.binding_values.Given as goal

abbrev pub invariant-loop-place : goal.invariant-loop-place
invariant-loop-place l = map view l.values.items ++ map binding_data (drop l.place l.bindings) ≡ map binding_data l.bindings
