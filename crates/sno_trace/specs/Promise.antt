-- What is promised of a trace.
use Rattle.std.specs.Prelude.{◌≡◌, ◌≤◌, ◌<◌, ℕ, zero, suc, Bool, true, false, List, [], ◌∷◌, ◌++◌, map, nat_lt, Option, Some, None, if◌then◌else◌}
use Rattle.std.specs.List.{flat_map}
use Rattle.sno_pattern.specs.Tree as tree
use Rattle.sno_pattern.specs.Tree.{Tree}
use Rattle.sno_pattern.specs.Results.{results, enough_depth}
use Rattle.sno_pattern.specs.Outcome.{Tried, starts, starts_from, scan, scan_from, found_in, trials_in, outcome, outcome_from, trials, trials_from}
use Rattle.sno_pattern.specs.declared.events.Event.TheVariants as event
use Rattle.sno_primitives.specs.Leaves.{leaf_ends}
use Rattle.sno_trace.specs.declared.events.Trial.{Trial}
use Rattle.sno_trace.specs.declared.events.Noted.{Noted}
use Rattle.sno_trace.specs.declared.events.Noted.TheVariants.{Try, Set, Mark, End, Halt, Stop}
use Rattle.sno_trace.specs.Noted.{erase, noted}

-- With its notes taken off, what a pattern does from a cursor is the definition's list of events.
abbrev pub NotesComeOff : Type 0
NotesComeOff = (t : List ℕ) (bodies : List Tree) (k : ℕ) (p : Tree) (c : ℕ) → erase (noted t bodies k p c) ≡ results t bodies k p c

-- where a leaf ends, in order: FENCE and @V end at the cursor itself
abbrev pub ends_of : List ℕ → Tree → ℕ → List ℕ
ends_of t tree.Fence c = c ∷ []
ends_of t (tree.At v) c = c ∷ []
ends_of t p c = leaf_ends t p c

-- The end of a trial, of all ends of its leaf. A trial that fails is the only one there, and the leaf has no end. The trial that
-- meets the leaf shows the first end, and one that backs into it shows a later end.
abbrev pub IsEnd : List ℕ → Option ℕ → Bool → Type 0
IsEnd es None false = es ≡ []
IsEnd es None true = ⊥
IsEnd es (Some e) false = (rest : List ℕ) × (es ≡ e ∷ rest)
IsEnd es (Some e) true = (first : ℕ) × (between : List ℕ) × (rest : List ℕ) × (es ≡ first ∷ (between ++ e ∷ rest))

abbrev pub IsHonest : List ℕ → Trial → Type 0
IsHonest t x = IsEnd (ends_of t x.leaf x.cursor) x.end x.again

-- what holds of each trial
abbrev pub AllTrials : (Trial → Type 0) → List Noted → Type 0
AllTrials P [] = Unit {0}
AllTrials P (Try x ∷ l) = P x × AllTrials P l
AllTrials P (Set a ∷ l) = AllTrials P l
AllTrials P (Mark d ∷ l) = AllTrials P l
AllTrials P (End e a ∷ l) = AllTrials P l
AllTrials P (Halt ∷ l) = AllTrials P l
AllTrials P (Stop ∷ l) = AllTrials P l

-- Each note is honest.
abbrev pub NotesAreHonest : Type 0
NotesAreHonest = (t : List ℕ) (bodies : List Tree) (k : ℕ) (p : Tree) (c : ℕ) → AllTrials (IsHonest t) (noted t bodies k p c)

-- a noted event with the start that it came from
abbrev pub Shown : Type 0
Shown = ℕ × Noted

-- up to and including the first End or Halt
abbrev pub until_ended : List Shown → List Shown
until_ended [] = []
until_ended ((s, Try x) ∷ l) = (s, Try x) ∷ until_ended l
until_ended ((s, Set a) ∷ l) = (s, Set a) ∷ until_ended l
until_ended ((s, Mark d) ∷ l) = (s, Mark d) ∷ until_ended l
until_ended ((s, End e a) ∷ l) = (s, End e a) ∷ []
until_ended ((s, Halt) ∷ l) = (s, Halt) ∷ []
until_ended ((s, Stop) ∷ l) = (s, Stop) ∷ []

-- the first n trials with what comes between them; Stop instead of a further one
abbrev pub first_shown : ℕ → List Shown → List Shown
first_shown n [] = []
first_shown zero ((s, Try x) ∷ l) = (s, Stop) ∷ []
first_shown (suc n) ((s, Try x) ∷ l) = (s, Try x) ∷ first_shown n l
first_shown n ((s, Set a) ∷ l) = (s, Set a) ∷ first_shown n l
first_shown n ((s, Mark d) ∷ l) = (s, Mark d) ∷ first_shown n l
first_shown n ((s, End e a) ∷ l) = (s, End e a) ∷ first_shown n l
first_shown n ((s, Halt) ∷ l) = (s, Halt) ∷ first_shown n l
first_shown n ((s, Stop) ∷ l) = (s, Stop) ∷ first_shown n l

-- what happens from one start
abbrev pub shown_from : List ℕ → List Tree → ℕ → Tree → ℕ → List Shown
shown_from t bodies k p s = map (λ x. (s, x)) (noted t bodies k p s)

-- all that happens in a match, noted, up to the event that ends it
abbrev pub noted_match : List ℕ → List Tree → ℕ → Tree → Bool → List Shown
noted_match t bodies k p anchored = until_ended (flat_map (shown_from t bodies k p) (starts t anchored))

-- What is shown of a match under a limit of n trials.
abbrev pub IsShown : List ℕ → List Tree → Tree → Bool → ℕ → List Shown → Type 0
IsShown t bodies p anchored n shown = shown ≡ first_shown n (noted_match t bodies (enough_depth t bodies) p anchored)

-- no more is shown
abbrev pub is_stop : Shown → Bool
is_stop (s, Stop) = true
is_stop (s, Halt) = false
is_stop (s, Try x) = false
is_stop (s, Set a) = false
is_stop (s, Mark d) = false
is_stop (s, End e a) = false

-- the notes taken off; Stop ends the list as Halt does
abbrev pub off : List Shown → List Tried
off [] = []
off ((s, Try x) ∷ l) = (s, event.Try) ∷ off l
off ((s, Set a) ∷ l) = (s, event.Set a) ∷ off l
off ((s, Mark d) ∷ l) = off l
off ((s, End e a) ∷ l) = (s, event.End e a) ∷ off l
off ((s, Halt) ∷ l) = (s, event.Halt) ∷ off l
off ((s, Stop) ∷ l) = (s, event.Halt) ∷ off l

-- of the definition's events those up to the one that ends the match
abbrev pub until_end : List Tried → List Tried
until_end [] = []
until_end ((s, event.Try) ∷ l) = (s, event.Try) ∷ until_end l
until_end ((s, event.Set a) ∷ l) = (s, event.Set a) ∷ until_end l
until_end ((s, event.End e a) ∷ l) = (s, event.End e a) ∷ []
until_end ((s, event.Halt) ∷ l) = (s, event.Halt) ∷ []

-- the events of a match up to the one that ends it
abbrev pub match_events : List ℕ → List Tree → Tree → Bool → List Tried
match_events t bodies p anchored = until_end (scan t bodies (enough_depth t bodies) p anchored)

-- What is shown is, with its notes taken off, the definition's list up to the event that ends the match. So it has the outcome of
-- the match, and its trials.
abbrev pub IsWholeMatch : List ℕ → List Tree → Tree → Bool → List Shown → Type 0
IsWholeMatch t bodies p anchored shown =
    (off shown ≡ match_events t bodies p anchored) × (found_in [] (off shown) ≡ outcome t bodies p anchored) × (trials_in (off shown) ≡ trials t bodies p anchored)

-- It is so if the trials of the match fit into the limit.
abbrev pub ShownIsTheMatch : Type 0
ShownIsTheMatch = (t : List ℕ) (bodies : List Tree) (p : Tree) (anchored : Bool) (n : ℕ) (shown : List Shown)
    → IsShown t bodies p anchored n shown → trials t bodies p anchored ≤ n → IsWholeMatch t bodies p anchored shown

-- what comes before the first Stop
abbrev pub before_stop : List Shown → List Shown
before_stop [] = []
before_stop ((s, Try x) ∷ l) = (s, Try x) ∷ before_stop l
before_stop ((s, Set a) ∷ l) = (s, Set a) ∷ before_stop l
before_stop ((s, Mark d) ∷ l) = (s, Mark d) ∷ before_stop l
before_stop ((s, End e a) ∷ l) = (s, End e a) ∷ before_stop l
before_stop ((s, Halt) ∷ l) = (s, Halt) ∷ before_stop l
before_stop ((s, Stop) ∷ l) = []

-- What is shown before a Stop is, with its notes taken off, a front of that list.
abbrev pub IsFront : List ℕ → List Tree → Tree → Bool → List Shown → Type 0
IsFront t bodies p anchored shown = (rest : List Tried) × (off (before_stop shown) ++ rest ≡ match_events t bodies p anchored)

-- It is so under any limit.
abbrev pub ShownIsAFront : Type 0
ShownIsAFront = (t : List ℕ) (bodies : List Tree) (p : Tree) (anchored : Bool) (n : ℕ) (shown : List Shown)
    → IsShown t bodies p anchored n shown → IsFront t bodies p anchored shown

-- If the trials don't fit, a Stop comes after exactly as many trials as the limit allows.
abbrev pub ShownIsFull : Type 0
ShownIsFull = (t : List ℕ) (bodies : List Tree) (p : Tree) (anchored : Bool) (n : ℕ) (shown : List Shown)
    → IsShown t bodies p anchored n shown → n < trials t bodies p anchored → trials_in (off (before_stop shown)) ≡ n

-- ---- Searches from a cursor on. What is above is a search from cursor 0.
-- all that happens in a search from cursor c on, noted, up to the event that ends it
abbrev pub noted_search : List ℕ → List Tree → ℕ → Tree → Bool → ℕ → List Shown
noted_search t bodies k p anchored c = until_ended (flat_map (shown_from t bodies k p) (starts_from t anchored c))

-- What is shown of a search from cursor c on under a limit of n trials.
abbrev pub IsShownFrom : List ℕ → List Tree → Tree → Bool → ℕ → ℕ → List Shown → Type 0
IsShownFrom t bodies p anchored c n shown = shown ≡ first_shown n (noted_search t bodies (enough_depth t bodies) p anchored c)

-- the events of a search from cursor c on, up to the one that ends it
abbrev pub search_events : List ℕ → List Tree → Tree → Bool → ℕ → List Tried
search_events t bodies p anchored c = until_end (scan_from t bodies (enough_depth t bodies) p anchored c)

-- What is shown is, with its notes taken off, the definition's list up to the event that ends the search. So it has the outcome of
-- the search, and its trials.
abbrev pub IsWholeSearch : List ℕ → List Tree → Tree → Bool → ℕ → List Shown → Type 0
IsWholeSearch t bodies p anchored c shown =
    (off shown ≡ search_events t bodies p anchored c) × (found_in [] (off shown) ≡ outcome_from t bodies p anchored c) × (trials_in (off shown) ≡ trials_from t bodies p anchored c)

-- What is shown before a Stop is, with its notes taken off, a front of that list.
abbrev pub IsFrontFrom : List ℕ → List Tree → Tree → Bool → ℕ → List Shown → Type 0
IsFrontFrom t bodies p anchored c shown = (rest : List Tried) × (off (before_stop shown) ++ rest ≡ search_events t bodies p anchored c)

-- of a later start than n
abbrev pub is_past : ℕ → Shown → Bool
is_past n (s, x) = nat_lt n s

-- of what is shown, in the order of its starts, that of the starts up to n
abbrev pub shown_up_to : ℕ → List Shown → List Shown
shown_up_to n [] = []
shown_up_to n (x ∷ l) = if is_past n x then [] else x ∷ shown_up_to n l
