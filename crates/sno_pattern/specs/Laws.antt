-- Laws of matching. Each is proved by a function of `laws` that has it as its contract.
use Rattle.std.specs.Prelude.{◌≡◌, ℕ, ◌+◌, ◌<◌, ◌≤◌, Bool, false, List, [], ◌∷◌, length, nat_lt, Some, if◌then◌else◌}
use Rattle.sno_pattern.specs.Tree.{Tree, Arbno}
use Rattle.sno_pattern.specs.Events.{go_on}
use Rattle.sno_pattern.specs.Results.{results, enough_depth}
use Rattle.sno_pattern.specs.Outcome.{outcome, outcome_at, trials, trials_at}
use Rattle.sno_pattern.specs.Beginnings.{first_literal, IsMissing}
use Rattle.sno_pattern.specs.Guard.{Takes, Guarded}
use Rattle.sno_pattern.specs.Admission.{IsFirstCycle}
use Rattle.sno_pattern.specs.declared.events.Event.{Event}
use Rattle.sno_pattern.specs.declared.events.Event.TheVariants.{Try, Set, End, Halt}

-- what holds of the cursor of each End
abbrev pub AllEnds : (ℕ → Type 0) → List Event → Type 0
AllEnds P [] = Unit {0}
AllEnds P (Try ∷ l) = AllEnds P l
AllEnds P (Set t ∷ l) = AllEnds P l
AllEnds P (End e a ∷ l) = P e × AllEnds P l
AllEnds P (Halt ∷ l) = AllEnds P l

-- not before the cursor c, and within the text
abbrev pub Within : List ℕ → ℕ → ℕ → Type 0
Within t c e = (c ≤ e) × (e ≤ length t)

-- A match ends nowhere before the cursor at which it begins, and nowhere past the end of the text.
abbrev pub EndsLieAtOrPast : Type 0
EndsLieAtOrPast = (t : List ℕ) (bodies : List Tree) (k : ℕ) (p : Tree) (c : ℕ) → c ≤ length t → AllEnds (Within t c) (results t bodies k p c)

-- A part that takes a character ends past the cursor at which it begins.
abbrev pub TakingMovesOn : Type 0
TakingMovesOn = (t : List ℕ) (bodies : List Tree) (p : Tree) → Takes bodies p → (k c : ℕ) → c ≤ length t → AllEnds (λ e. c < e) (results t bodies k p c)

-- ARBNO(P) is '' | P ARBNO(P), except that a round that takes no character is dropped.
abbrev pub Repetition : Type 0
Repetition = (t : List ℕ) (bodies : List Tree) (k : ℕ) (p : Tree) (c : ℕ) → c ≤ length t
    → results t bodies k (Arbno p) c ≡ End c [] ∷ go_on (results t bodies k p c) (λ e. if nat_lt c e then results t bodies k (Arbno p) e else [])

-- If the definitions are guarded, a depth greater than `enough_depth` gives nothing more, from any cursor of the text ..
abbrev pub DepthIsEnough : Type 0
DepthIsEnough = (t : List ℕ) (bodies : List Tree) → Guarded bodies → (k : ℕ) (p : Tree) (c : ℕ) → enough_depth t bodies ≤ k → c ≤ length t
    → results t bodies k p c ≡ results t bodies (enough_depth t bodies) p c

-- .. and so it makes no difference to the outcome of a match.
abbrev pub OutcomeIsSettled : Type 0
OutcomeIsSettled = (t : List ℕ) (bodies : List Tree) → Guarded bodies → (k : ℕ) (p : Tree) (anchored : Bool) → enough_depth t bodies ≤ k
    → outcome_at t bodies k p anchored ≡ outcome t bodies p anchored

-- Nor does it make a difference to how many trials the match takes.
abbrev pub TrialsAreSettled : Type 0
TrialsAreSettled = (t : List ℕ) (bodies : List Tree) → Guarded bodies → (k : ℕ) (p : Tree) (anchored : Bool) → enough_depth t bodies ≤ k
    → trials_at t bodies k p anchored ≡ trials t bodies p anchored

-- If a pattern's first part is a literal that isn't at the cursor, the pattern does nothing there but one trial.
abbrev pub MissingCostsOne : Type 0
MissingCostsOne = (t : List ℕ) (bodies : List Tree) (k : ℕ) (p : Tree) (s : List ℕ) (c : ℕ) → first_literal p ≡ Some s → IsMissing t s c → results t bodies k p c ≡ Try ∷ []

-- So if the literal is nowhere, the floating match takes one trial for each start: one more than there are characters.
abbrev pub NowhereCostsEachStart : Type 0
NowhereCostsEachStart = (t : List ℕ) (bodies : List Tree) (p : Tree) (s : List ℕ) → first_literal p ≡ Some s → ((c : ℕ) → c ≤ length t → IsMissing t s c)
    → trials t bodies p false ≡ length t + 1

-- Definitions with a cycle are not guarded: admission never refuses guarded ones as unguarded.
abbrev pub CyclesAreUnguarded : Type 0
CyclesAreUnguarded = (bodies : List Tree) (cycle : List ℕ) → IsFirstCycle bodies cycle → Guarded bodies → ⊥
