-- Laws of views, each the contract of a function in `src/laws.rt`.
use Rattle.std.specs.Prelude.{◌≡◌, ◌≢◌, ◌≤◌, ℕ, List, length, Some, None, slice_get}
use Rattle.sno_statement.specs.Statement.{Statement}
use Rattle.sno_book.specs.Proposals.{Proposal, Proposes}
use Rattle.sno_book.specs.Commits.{IsSnapshot, refusal}
use Rattle.sno_book.specs.Snapshots.{Snapshot}
use Rattle.sno_book.specs.States.{VersionedText, find}
use Rattle.sno_book.specs.Views.{View, IsPrefix, AreRelated, state_of}

-- a text's version is no higher after the earlier view than after the later one; if it is the same, so are the
-- characters
pub record OnlyRises (before after : VersionedText) : Type 0 where
  pub version : before.version ≤ after.version
  pub text : before.version ≡ after.version → before.text ≡ after.text

abbrev pub VersionsOnlyRise : Type 0
VersionsOnlyRise = (earlier later : View) → IsPrefix earlier later → (name : List ℕ) (before after : VersionedText) → find name (state_of earlier) ≡ Some before
    → find name (state_of later) ≡ Some after → OnlyRises before after

-- the same for the texts at one place
abbrev pub VersionsOnlyRiseInPlace : Type 0
VersionsOnlyRiseInPlace = (earlier later : View) → IsPrefix earlier later → (place : ℕ) (before after : VersionedText) → slice_get (state_of earlier) place ≡ Some before
    → slice_get (state_of later) place ≡ Some after → OnlyRises before after

-- if one of two views begins the other, the texts at one place with the same version have the same characters
abbrev pub RelatedAgree : Type 0
RelatedAgree = (one other : View) → AreRelated one other → (place : ℕ) (text its : VersionedText) → slice_get (state_of one) place ≡ Some text
    → slice_get (state_of other) place ≡ Some its → text.version ≡ its.version → text.text ≡ its.text

-- no text has a version above the number of entries
abbrev pub VersionsCountEntries : Type 0
VersionsCountEntries = (v : View) (place : ℕ) (versioned : VersionedText) → slice_get (state_of v) place ≡ Some versioned → versioned.version ≤ length v.journal

-- a proposal on a snapshot of the book as it is now is refused only if the journal is full
abbrev pub FreshIsFree : Type 0
FreshIsFree = (v : View) (snapshot : Snapshot) (s : Statement) (p : Proposal) → IsSnapshot v s.text snapshot → Proposes p s snapshot → length v.journal ≢ v.opening.room
    → refusal v p ≡ None

-- and its view is the book's
abbrev pub FreshIsRelated : Type 0
FreshIsRelated = (v : View) (snapshot : Snapshot) (s : Statement) (p : Proposal) → IsSnapshot v s.text snapshot → Proposes p s snapshot → AreRelated p.origin v
