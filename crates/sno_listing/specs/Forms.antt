-- The two forms of a listing.
use Rattle.std.specs.Prelude.{ℕ, Bool, List, if◌then◌else◌}
use Rattle.sno_listing.specs.History.{History}
use Rattle.sno_listing.specs.Listing.{listing}
use Rattle.sno_listing.specs.JsonListing.{json_listing}

-- a listing as JSON or in lines
abbrev pub listing_by : Bool → History → List ℕ
listing_by json h = if json then json_listing h else listing h
