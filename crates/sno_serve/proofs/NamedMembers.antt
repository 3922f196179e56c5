-- A reply with names of members that mean nothing, if there are any.
use Rattle.std.proofs.Common.{◌≡◌, List, [], ◌∷◌, map, codes, refl}
use Rattle.serde_json.specs.Data.{Data}
use Rattle.serde_json.specs.View.{view}
use Rattle.serde_json.specs.declared.value.Value.{Value}
use Rattle.sno_listing.specs.JsonListing.{array_of}
use Rattle.sno_serve.specs.Replies.{with_further, with_ignored}

pub some_ignored : (vs : List Value) (d : Data) → (vs ≡ [] → ⊥) → with_ignored (map view vs) d ≡ with_further (codes "ignored") (array_of (map view vs)) d
some_ignored [] d h = absurd (h refl)
some_ignored (v ∷ vs) d h = refl
