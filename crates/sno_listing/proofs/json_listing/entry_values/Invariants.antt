-- The values so far, with those that are left.
use Rattle.std.proofs.Common.{◌≡◌, ◌+◌, ◌++◌, drop, map}
use Rattle.serde_json.specs.View.{view}
use Rattle.sno_listing.specs.JsonListing.{entries_data}
use Rattle.sno_listing.proofs.json_listing.entry_values.Given as goal

abbrev pub invariant-loop-index : goal.invariant-loop-index
invariant-loop-index l = map view l.values.items ++ entries_data (l.first + l.index) (drop l.index l.journal) ≡ entries_data l.first l.journal
