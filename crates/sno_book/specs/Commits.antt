-- What a book does with a proposal.
use Rattle.std.specs.Prelude.{◌≡◌, ◌≢◌, ◌<◌, ◌+◌, ◌^◌, ℕ, List, length, nat_eq, Option, Some, None, Result, Ok, Err, slice_get, if◌then◌else◌}
use Rattle.sno_book.specs.States.{VersionedText, find}
use Rattle.sno_book.specs.Journals.{HasStep, step}
use Rattle.sno_book.specs.Openings.{place_in}
use Rattle.sno_book.specs.Views.{View, state_of, and_then}
use Rattle.sno_book.specs.Books.{Book, view_of}
use Rattle.sno_book.specs.Origins.{HoldsText}
use Rattle.sno_book.specs.Proposals.{Proposal, Receipt, entry_of}
use Rattle.sno_book.specs.declared.faults.CommitFault.{CommitFault}
use Rattle.sno_book.specs.declared.faults.CommitFault.TheVariants as fault
use Rattle.sno_book.specs.declared.faults.SnapshotFault.{SnapshotFault}
use Rattle.sno_book.specs.declared.faults.SnapshotFault.TheVariants as snapshots
use Rattle.sno_book.specs.Snapshots.{Snapshot}

-- `Full` if the journal has as many entries as it may hold
abbrev pub full : View → Option CommitFault
full v = if nat_eq (length v.journal) v.opening.room then Some fault.Full else None

-- `Changed` if the text has another version than the proposal
abbrev pub beside : View → Proposal → Option VersionedText → Option CommitFault
beside v p None = Some fault.NoText
beside v p (Some versioned) = if nat_eq p.version versioned.version then full v else Some (fault.Changed p.version versioned.version)

-- `NoText` if the text of the statement's name is not at the snapshot's place
abbrev pub at_place : View → Proposal → Option ℕ → Option CommitFault
at_place v p None = Some fault.NoText
at_place v p (Some place) = if nat_eq place p.place then beside v p (slice_get (state_of v) place) else Some fault.NoText

-- the first refusal that holds, out of memory aside: no text of that name at that place, another version, a full
-- journal
abbrev pub refusal : View → Proposal → Option CommitFault
refusal v p = at_place v p (place_in v.opening p.statement.text)

-- no refusal holds, and the entry is appended at the index that the receipt names. It is one step: the entry has a step
-- from the texts as they were, and they are now what the step leaves. The receipt's text is the book's, and also the
-- one after the proposal's view
pub record IsAccepted (before after : View) (p : Proposal) (given : Receipt) : Type 0 where
  pub free : refusal before p ≡ None
  pub appended : after ≡ and_then before (entry_of p)
  pub has_step : HasStep (state_of before) (entry_of p)
  pub stepped : state_of after ≡ step (state_of before) (entry_of p)
  pub index : given.index ≡ length before.journal
  pub entry : given.entry ≡ entry_of p
  pub text : slice_get (state_of before) p.place ≡ Some (record { name = p.statement.text; text = given.text; version = p.version })
  pub seen : HoldsText p.origin p.place p.version given.text

-- the refusal is the first that holds, or `Memory` if no other holds; nothing is changed, and the proposal comes back
pub record IsRefused (before after : View) (p back : Proposal) (e : CommitFault) : Type 0 where
  pub cause : e ≢ fault.Memory → refusal before p ≡ Some e
  pub memory : e ≡ fault.Memory → refusal before p ≡ None
  pub unchanged : after ≡ before
  pub handed_back : back ≡ p

-- the text at the proposal's place has the statement's name and the proposal's version; there is room for one entry
-- more, and the version can rise
pub record Fits (v : View) (p : Proposal) : Type 0 where
  pub text : List ℕ
  pub there : slice_get (state_of v) p.place ≡ Some (record { name = p.statement.text; text = text; version = p.version })
  pub room : length v.journal < v.opening.room
  pub rises : p.version + 1 < 2 ^ 64

-- no refusal holds; opening and journal are as they were; memory is kept for one entry more; the result is the
-- proposal, which fits
pub record IsReady (before after : Book) (p ready : Proposal) : Type 0 where
  pub free : refusal (view_of before) p ≡ None
  pub unchanged : view_of after ≡ view_of before
  pub kept : 0 < after.spare
  pub holds : ready ≡ p
  pub fits : Fits (view_of after) ready

-- a snapshot of the text of this name: the view, the text's place in it, and its current characters and version
pub record IsSnapshot (v : View) (name : List ℕ) (snapshot : Snapshot) : Type 0 where
  pub origin : snapshot.origin ≡ v
  pub place : place_in v.opening name ≡ Some snapshot.place
  pub there : slice_get (state_of v) snapshot.place ≡ Some (record { name = name; text = snapshot.text; version = snapshot.version })
  pub found : find name (state_of v) ≡ Some (record { name = name; text = snapshot.text; version = snapshot.version })

-- a snapshot exactly if there is a text of that name, out of memory aside
abbrev pub GivesSnapshot : Result Snapshot SnapshotFault → View → List ℕ → Type 0
GivesSnapshot (Ok snapshot) v name = IsSnapshot v name snapshot
GivesSnapshot (Err snapshots.NoText) v name = (place_in v.opening name ≡ None) × (find name (state_of v) ≡ None)
GivesSnapshot (Err snapshots.Memory) v name = place_in v.opening name ≢ None
