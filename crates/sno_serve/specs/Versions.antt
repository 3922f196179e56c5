-- Texts at one moment, and a text as it was at one version.
use Rattle.std.specs.Prelude.{◌≡◌, ℕ, ◌+◌, ◌&&◌, nat_eq, List, [], ◌∷◌, Option, Some, None, Result, Ok, Err, slice_get, if◌then◌else◌}
use Rattle.std.specs.Option.{option_map}
use Rattle.sno_pattern.specs.Identifiers.{same}
use Rattle.sno_statement.specs.Perform.{after_of}
use Rattle.sno_book.specs.Entries.{Entry}
use Rattle.sno_book.specs.Openings.{Opening, place_in}
use Rattle.sno_book.specs.Snapshots.{Snapshot}
use Rattle.sno_published.specs.Snapshots.{snapshots_of}
use Rattle.sno_desk.specs.Seen.{IsCauseForAll}
use Rattle.sno_desk.specs.declared.faults.SnapshotFault.{SnapshotFault}

-- snapshots of the texts of these names after the entries that were seen, or why there are none
abbrev pub GivesAll : Result (List Snapshot) SnapshotFault → Opening → List Entry → List (List ℕ) → Type 0
GivesAll (Ok taken) opening seen names = snapshots_of opening seen names ≡ Some taken
GivesAll (Err fault) opening seen names = IsCauseForAll fault opening names

-- the new text if it is there, or what comes later
abbrev pub or_later : Option (List ℕ) → Option (List ℕ) → Option (List ℕ)
or_later None later = later
or_later (Some text) later = Some text

-- the new text, if the entry replaces the text of this name and so gives it this version
abbrev pub given_by : List ℕ → ℕ → Entry → Option (List ℕ)
given_by name version e = if same e.statement.text name && nat_eq (e.version + 1) version then after_of e.outcome else None

-- the new text of the first entry that gave the text of this name this version
abbrev pub replaced_at : List Entry → List ℕ → ℕ → Option (List ℕ)
replaced_at [] name version = None
replaced_at (e ∷ entries) name version = or_later (given_by name version e) (replaced_at entries name version)

-- the text that the opening has at a place, if there is one
abbrev pub opened_at : Opening → Option ℕ → Option (List ℕ)
opened_at opening None = None
opened_at opening (Some place) = option_map (λ t. t.1) (slice_get opening.texts place)

-- the text of this name as it was at a version: at version 0 that of the opening, and later that of the entry that gave it the version
abbrev pub text_at_version : Opening → List Entry → List ℕ → ℕ → Option (List ℕ)
text_at_version opening entries name version =
    if nat_eq version 0 then opened_at opening (place_in opening name) else replaced_at entries name version
