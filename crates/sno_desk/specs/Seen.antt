-- What a seat sees of its desk.
use Rattle.std.specs.Prelude.{◌≡◌, ◌≢◌, ℕ, List, [], ◌∷◌, ◌++◌, ◌<◌, ◌≤◌, length, map, Option, Some, None, Result, Ok, Err}
use mathlib.Core.List.{IsPrefix as Begins}
use denote.Ref.{Bor}
use Rattle.std.specs.Fn.{Once}
use Rattle.sno_book.specs.Entries.{Entry}
use Rattle.sno_book.specs.Journals.{Legal}
use Rattle.sno_book.specs.Openings.{Opening, place_in, start}
use Rattle.sno_book.specs.Proposals.{Receipt}
use Rattle.sno_book.specs.Snapshots.{Snapshot}
use Rattle.sno_book.specs.States.{VersionedText}
use Rattle.sno_book.specs.Views.{View}
use Rattle.sno_published.specs.Snapshots.{if_all}
use Rattle.sno_published.specs.Tables.{text_after, text_at}
use Rattle.sno_published.specs.Viewings.{IsLent}
use Rattle.sno_desk.specs.Seatings.{Seating}
use Rattle.sno_desk.specs.declared.faults.SnapshotFault.{SnapshotFault}
use Rattle.sno_desk.specs.declared.faults.SnapshotFault.TheVariants as snapshot
use Rattle.sno_desk.specs.declared.faults.LookFault.{LookFault}
use Rattle.sno_desk.specs.declared.faults.LookFault.TheVariants as look

-- the opening with the entries that were seen
abbrev pub view_after : Opening → List Entry → View
view_after opening seen = record { opening = opening; journal = seen }

-- a snapshot of the text of this name after the entries that were seen: its place in the opening, and its characters and version after them
pub record IsSeen (opening : Opening) (seen : List Entry) (name : List ℕ) (taken : Snapshot) : Type 0 where
  pub origin : taken.origin ≡ view_after opening seen
  pub place : place_in opening name ≡ Some taken.place
  pub there : text_after opening seen taken.place ≡ Some (text_at opening taken.place taken.text taken.version)

-- `NoText` exactly if the opening has no text of that name
abbrev pub GivesSeen : Result Snapshot SnapshotFault → Opening → List Entry → List ℕ → Type 0
GivesSeen (Ok taken) opening seen name = IsSeen opening seen name taken
GivesSeen (Err snapshot.NoText) opening seen name = place_in opening name ≡ None
GivesSeen (Err snapshot.Stopped) opening seen name = place_in opening name ≢ None
GivesSeen (Err snapshot.Memory) opening seen name = place_in opening name ≢ None

-- the places of these names, if the opening has a text of each
abbrev pub places_of : Opening → List (List ℕ) → Option (List ℕ)
places_of opening names = if_all (map (place_in opening) names)

-- `NoText` exactly if the opening has no text of one of these names
abbrev pub IsCauseForAll : SnapshotFault → Opening → List (List ℕ) → Type 0
IsCauseForAll snapshot.NoText opening names = places_of opening names ≡ None
IsCauseForAll snapshot.Stopped opening names = places_of opening names ≢ None
IsCauseForAll snapshot.Memory opening names = places_of opening names ≢ None

-- the result is one that the function may return for the text of this name and its version, as these entries leave it
pub record IsRead {F T : Type 0} (calls : Once F (Bor (List ℕ) × (ℕ × Unit {0})) T) (f : F) (opening : Opening) (seen : List Entry) (name : List ℕ) (r : T) : Type 0 where
  pub place : ℕ
  pub named : place_in opening name ≡ Some place
  pub held : VersionedText
  pub there : text_after opening seen place ≡ Some held
  pub lent : IsLent calls f opening place held r

-- the same for the text at this place
pub record IsReadAt {F T : Type 0} (calls : Once F (Bor (List ℕ) × (ℕ × Unit {0})) T) (f : F) (opening : Opening) (seen : List Entry) (place : ℕ) (r : T) : Type 0 where
  pub held : VersionedText
  pub there : text_after opening seen place ≡ Some held
  pub lent : IsLent calls f opening place held r

-- `NoText` exactly if the opening has no text at that place
abbrev pub IsPlaceCause : LookFault → Opening → ℕ → Type 0
IsPlaceCause look.NoText opening place = length opening.texts ≤ place
IsPlaceCause look.Stopped opening place = place < length opening.texts

-- `NoText` exactly if the opening has no text of that name
abbrev pub IsLookCause : LookFault → Opening → List ℕ → Type 0
IsLookCause look.NoText opening name = place_in opening name ≡ None
IsLookCause look.Stopped opening name = place_in opening name ≢ None

-- after `Memory` what is shown was seen; after another refusal nothing more is seen
abbrev pub IsViewAfter : SnapshotFault → Seating → Seating → Type 0
IsViewAfter snapshot.Memory before after = after.seen ≡ after.shown
IsViewAfter snapshot.NoText before after = after.seen ≡ before.seen
IsViewAfter snapshot.Stopped before after = after.seen ≡ before.seen

-- there is a legal list that ends in the receipt's entry, with as many entries before it as the receipt's
-- index. What the seat has seen begins with that list. The receipt's text is that of its statement's name, with the
-- entry's version, as the entries before its own leave it
pub record IsInView (opening : Opening) (seen : List Entry) (receipt : Receipt) : Type 0 where
  pub front : List Entry
  pub legal : Legal (start opening) (front ++ receipt.entry ∷ [])
  pub many : length front ≡ receipt.index
  pub begins : Begins (front ++ receipt.entry ∷ []) seen
  pub place : ℕ
  pub named : place_in opening receipt.entry.statement.text ≡ Some place
  pub text : text_after opening front place ≡ Some (record { name = receipt.entry.statement.text; text = receipt.text; version = receipt.entry.version })

-- the text at this place has this version after the entries that were seen
pub record HasVersion (opening : Opening) (seen : List Entry) (place version : ℕ) : Type 0 where
  pub text : List ℕ
  pub name : List ℕ
  pub there : text_after opening seen place ≡ Some (record { name = name; text = text; version = version })
