-- Snapshots of what is shown.
use Rattle.std.specs.Prelude.{ℕ, List, [], ◌∷◌, map, Option, Some, None}
use Rattle.std.specs.Option.{option_map}
use Rattle.sno_book.specs.Entries.{Entry}
use Rattle.sno_book.specs.Openings.{Opening, place_in}
use Rattle.sno_book.specs.Snapshots.{Snapshot}
use Rattle.sno_book.specs.States.{VersionedText}
use Rattle.sno_published.specs.Tables.{text_after}

-- a text at a place, as a snapshot that comes from these entries
abbrev pub taken : Opening → List Entry → ℕ → VersionedText → Snapshot
taken opening seen place held = record { place = place; version = held.version; text = held.text; origin = record { opening = opening; journal = seen } }

-- the snapshot of the text at this place after these entries, if there is a text
abbrev pub snapshot_at : Opening → List Entry → Option ℕ → Option Snapshot
snapshot_at opening seen None = None
snapshot_at opening seen (Some place) = option_map (taken opening seen place) (text_after opening seen place)

-- the snapshot of the text of this name after these entries, if the opening has a text of that name
abbrev pub snapshot_of : Opening → List Entry → List ℕ → Option Snapshot
snapshot_of opening seen name = snapshot_at opening seen (place_in opening name)

-- the values, if each of them is there
abbrev pub if_all : {A : Type 0} → List (Option A) → Option (List A)
if_all [] = Some []
if_all (None ∷ rest) = None
if_all (Some a ∷ rest) = option_map (λ more. a ∷ more) (if_all rest)

-- snapshots of the texts of these names after the same entries, if the opening has a text of each name
abbrev pub snapshots_of : Opening → List Entry → List (List ℕ) → Option (List Snapshot)
snapshots_of opening seen names = if_all (map (snapshot_of opening seen) names)
