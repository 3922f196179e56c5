-- What a seat gets from a commit.
use Rattle.std.specs.Prelude.{◌≡◌, ◌<◌, ◌≤◌, ℕ, Some, None}
use Rattle.sno_book.specs.Commits.{refusal}
use Rattle.sno_book.specs.Origins.{HoldsText}
use Rattle.sno_book.specs.Proposals.{Proposal, Receipt, entry_of}
use Rattle.sno_book.specs.Views.{View}
use Rattle.sno_book.specs.declared.openings.TheConstants.{MAX_ENTRIES}
use Rattle.sno_book.specs.declared.faults.CommitFault.TheVariants as book
use Rattle.sno_desk.specs.declared.faults.CommitFault.{CommitFault}
use Rattle.sno_desk.specs.declared.faults.CommitFault.TheVariants as commit

-- the receipt's entry is the proposal's, and its text the one that the proposal is for
pub record IsFor (receipt : Receipt) (p : Proposal) : Type 0 where
  pub entry : receipt.entry ≡ entry_of p
  pub text : HoldsText p.origin p.place p.version receipt.text

-- the receipt's index is no lower than the number of entries that its seat had accepted, and equal to it if the desk
-- has no other seat. A journal has at most a million entries. A version rises only with an entry, so the entry's
-- version is at most the number of entries before it
pub record StandsAfter (seats accepted : ℕ) (receipt : Receipt) : Type 0 where
  pub after : accepted ≤ receipt.index
  pub alone : seats ≡ 1 → receipt.index ≡ accepted
  pub within : receipt.index < MAX_ENTRIES
  pub version : receipt.entry.version ≤ receipt.index

-- why a commit is refused, at the view that its seat has now: the book's own refusal is the first that holds; `Memory`
-- comes only if no other holds; of `Stopped` nothing is said
abbrev pub IsCause : CommitFault → View → Proposal → Type 0
IsCause (commit.Changed seen now) view p = refusal view p ≡ Some (book.Changed seen now)
IsCause commit.NoText view p = refusal view p ≡ Some book.NoText
IsCause commit.Full view p = refusal view p ≡ Some book.Full
IsCause commit.Memory view p = refusal view p ≡ None
IsCause commit.Stopped view p = Unit {0}

-- a text can have this version: a version rises only with an entry, so it is at most the number of entries that a
-- journal may hold. If the desk has no other seat, it is also at most the number that the seat has accepted
pub record CanStandAt (seats accepted version : ℕ) : Type 0 where
  pub within : version ≤ MAX_ENTRIES
  pub alone : seats ≡ 1 → version ≤ accepted

-- the version that a text is said to have now is one that it can have
abbrev pub NamesVersion : ℕ → ℕ → CommitFault → Type 0
NamesVersion seats accepted (commit.Changed seen now) = CanStandAt seats accepted now
NamesVersion seats accepted commit.Stopped = Unit {0}
NamesVersion seats accepted commit.NoText = Unit {0}
NamesVersion seats accepted commit.Full = Unit {0}
NamesVersion seats accepted commit.Memory = Unit {0}
