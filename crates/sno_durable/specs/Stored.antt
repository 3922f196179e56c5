-- What a service leaves in its store.
use Rattle.std.specs.Prelude.{◌≡◌, ◌+◌, ◌++◌, ℕ, List, [], ◌∷◌, Some, length, option_and_then, IsTrue}
use mathlib.Core.List.{IsPrefix as Begins}
use Rattle.serde_json.specs.Read.{read}
use Rattle.sqlite_disk.specs.declared.Disk.{Ghosts}
use Rattle.sno_book.specs.Entries.{Entry}
use Rattle.sno_book.specs.Openings.{Opening}
use Rattle.sno_desk.specs.Turns.{Position}
use Rattle.sno_sealed.specs.declared.sealed.Sealed.{Sealed}
use Rattle.sno_sealed.specs.Sealed.{lines_of, is_clean, Holds}
use Rattle.sno_durable.specs.Origins.{IsMeant, origin_said, origin_seen}
use Rattle.sno_durable.specs.Performed.{AreRecords}
use Rattle.sno_durable.specs.Records.{origin_data}
use Rattle.sno_durable.specs.declared.earlier.Reading.{Reading}
use Rattle.sno_durable.specs.declared.records.Origin.{Origin}

-- the lines after the first one
abbrev pub later_lines : List (List ℕ) → List (List ℕ)
later_lines [] = []
later_lines (first ∷ later) = later

-- the first line of a store that was opened with these lines: it stays, or says what a new store was made of
abbrev pub IsFirst : Origin → List (List ℕ) → List ℕ → Type 0
IsFirst origin [] line = read line ≡ Some (origin_data origin.document.items origin.trials)
IsFirst origin (first ∷ later) line = line ≡ first

-- the list has one element, which has the property
abbrev pub IsOnly : {A : Type 0} → (A → Type 0) → List A → Type 0
IsOnly P [] = ⊥
IsOnly P (x ∷ later) = (later ≡ []) × P x

module _ {D : Type 0} {g : Ghosts D} where
  -- these lines, sealed, have come after those that the store had, unless the disk has given other bytes than it has
  abbrev pub HasPut : Sealed D g → Sealed D g → List (List ℕ) → Type 0
  HasPut old new news =
      IsTrue (is_clean new) → IsTrue (is_clean old) × Begins (lines_of old) (lines_of new) × ((olds : List (List ℕ)) → Holds old olds → Holds new (olds ++ news))

  -- the records of the entries that were accepted, and no others, have come to the store
  pub record HasStored (reading : Reading) (opening : Opening) (before after : Position) (old new : Sealed D g) : Type 0 where
    pub news : List (List ℕ)
    pub counted : after.accepted ≡ before.accepted + length news
    pub records : AreRecords reading opening before.seen news after.seen
    pub put : HasPut old new news

  -- a store that was opened with these lines has a first one: a new one has got it
  pub record HasBegun (origin : Origin) (lines : List (List ℕ)) (old new : Sealed D g) : Type 0 where
    pub first : List ℕ
    pub news : List (List ℕ)
    pub is : IsFirst origin lines first
    pub joined : lines ++ news ≡ first ∷ later_lines lines
    pub put : HasPut old new news

  -- after this number of entries the earlier records were performed again, and the records of further entries have come to the store: together
  -- those of all entries that were accepted since
  pub record HasGoneOn (reading : Reading) (opening : Opening) (first : ℕ) (earlier : List (List ℕ)) (after : Position) (old new : Sealed D g) : Type 0 where
    pub news : List (List ℕ)
    pub counted : after.accepted ≡ first + length (earlier ++ news)
    pub records : AreRecords reading opening [] (earlier ++ news) after.seen
    pub put : HasPut old new news

  -- A store that was opened with these lines has them still, and then the records of further entries. After the first line it has the record
  -- of each entry of the journal that comes after as many as `first`, and nothing else: all of them were performed, by what lines mean for
  -- what the first line says
  pub record IsKept (origin : Origin) (opening : Opening) (journal : List Entry) (first : ℕ) (lines : List (List ℕ)) (old new : Sealed D g) : Type 0 where
    pub reading : Reading
    pub line : List ℕ
    pub news : List (List ℕ)
    pub begins : IsFirst origin lines line
    pub said : option_and_then origin_said (read line) ≡ Some (origin_seen origin)
    pub meant : IsMeant origin reading opening
    pub same : Begins (lines_of old) (lines_of new)
    pub holds : Holds new (line ∷ (later_lines lines ++ news))
    pub counted : length (lines_of new) + first ≡ 1 + length journal
    pub records : AreRecords reading opening [] (later_lines lines ++ news) journal
