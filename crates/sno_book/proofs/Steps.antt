-- Journals one entry longer, and versions over the steps of a journal.
use Rattle.std.proofs.Common.{◌≡◌, ℕ, suc, ◌+◌, ◌≤◌, Bool, true, false, cond, List, [], ◌∷◌, ◌++◌, length, Option, Some, None, refl, subst, arith}
use Rattle.sno_pattern.specs.Identifiers.{same}
use Rattle.sno_book.specs.States.{VersionedText, State, raise, renew, renew_by}
use Rattle.sno_book.specs.Entries.{Entry, after_of}
use Rattle.sno_book.specs.Journals.{HasStep, step, replay, Legal}
use Rattle.sno_book.specs.Openings.{start}

-- no version is above n
abbrev pub VersionsBelow : ℕ → State → Type 0
VersionsBelow n [] = Unit {0}
VersionsBelow n (versioned ∷ state) = (versioned.version ≤ n) × VersionsBelow n state

more : (n : ℕ) (state : State) → VersionsBelow n state → VersionsBelow (n + 1) state
more n [] h = tt
more n (versioned ∷ state) h = (omega (arith, h.0), more n state h.1)

below_if : (b : Bool) (n : ℕ) (text : List ℕ) (versioned : VersionedText) (state new : State) → versioned.version ≤ n → VersionsBelow n state → VersionsBelow (n + 1) new
    → VersionsBelow (n + 1) (cond b (raise versioned text ∷ state) (versioned ∷ new))
below_if true n text versioned state new here h later = (omega (arith, here), more n state h)
below_if false n text versioned state new here h later = (omega (arith, here), later)

below_renewed : (n : ℕ) (name text : List ℕ) (state : State) → VersionsBelow n state → VersionsBelow (n + 1) (renew name text state)
below_renewed n name text [] h = tt
below_renewed n name text (versioned ∷ state) h = below_if (same name versioned.name) n text versioned state (renew name text state) h.0 h.1 (below_renewed n name text state h.1)

below_by : (n : ℕ) (name : List ℕ) (text : Option (List ℕ)) (state : State) → VersionsBelow n state → VersionsBelow (n + 1) (renew_by name text state)
below_by n name None state h = more n state h
below_by n name (Some text) state h = below_renewed n name text state h

-- a version is raised at most once by each entry
pub below_replayed : (n : ℕ) (state : State) (journal : List Entry) → VersionsBelow n state → VersionsBelow (n + length journal) (replay state journal)
below_replayed n state [] h = let count : n ≡ n + 0 = omega arith in subst (λ k. VersionsBelow k state) count h
below_replayed n state (e ∷ journal) h =
    let r = below_replayed (n + 1) (step state e) journal (below_by n e.statement.text (after_of e.outcome) state h) in
    let count : n + 1 + length journal ≡ n + suc (length journal) = omega arith in subst (λ k. VersionsBelow k (replay (step state e) journal)) count r

pub below_started : (texts : List (List ℕ × List ℕ)) (room : ℕ) → VersionsBelow 0 (start (record { texts = texts; room = room }))
below_started [] room = tt
below_started (t ∷ texts) room = (omega arith, below_started texts room)

-- one more entry
pub replay_snoc : (state : State) (journal : List Entry) (e : Entry) → replay state (journal ++ e ∷ []) ≡ step (replay state journal) e
replay_snoc state [] e = refl
replay_snoc state (d ∷ journal) e = replay_snoc (step state d) journal e

pub legal_snoc : (state : State) (journal : List Entry) (e : Entry) → Legal state journal → HasStep (replay state journal) e → Legal state (journal ++ e ∷ [])
legal_snoc state [] e h s = (s, tt)
legal_snoc state (d ∷ journal) e h s = (h.0, legal_snoc (step state d) journal e h.1 s)
