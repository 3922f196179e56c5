-- Lines that are a statement and nothing else.
use Rattle.std.specs.Prelude.{◌≡◌, None, codes}
use Rattle.serde_json.specs.Data.{Data}
use Rattle.serde_json.specs.Find.{get}

-- the line has none of the members that ask for something else, or that say more of a statement
abbrev pub IsPlain : Data → Type 0
IsPlain d =
    ((get (codes "read") d ≡ None) × (get (codes "since") d ≡ None) × (get (codes "texts") d ≡ None))
    × ((get (codes "trials") d ≡ None) × (get (codes "bind") d ≡ None) × (get (codes "check") d ≡ None) × (get (codes "if_version") d ≡ None))
