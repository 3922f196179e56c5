-- Laws of passes. Each is proved by a function of `laws` that has it as its contract.
use Rattle.std.specs.Prelude.{◌≡◌, ℕ, ◌≤◌, List, [], ◌∷◌, length, Some, None}
use Rattle.sno_pattern.specs.Ends.{part}
use Rattle.sno_pattern.specs.Outcome.{outcome}
use Rattle.sno_pattern.specs.declared.found.Found.{Found}
use Rattle.sno_pattern.specs.declared.found.Hit.{Hit}
use Rattle.sno_read.specs.declared.objects.Part.{Part}
use Rattle.sno_statement.specs.declared.match_lists.Match.{Match}
use Rattle.sno_statement.specs.Statement.{Statement}
use Rattle.sno_statement.specs.Passes.{all_matches, match_of, replaced}
use Rattle.sno_statement.specs.Value.{value_of}

-- each match lies in the text, and none begins before the cursor c or before the end of the match before it
abbrev pub AreInOrder : List ℕ → ℕ → List Match → Type 0
AreInOrder t c [] = Unit {0}
AreInOrder t c (m ∷ ms) = (c ≤ m.start) × (m.start ≤ m.end) × (m.end ≤ length t) × AreInOrder t m.end ms

-- All matches of a statement are in order and don't overlap.
abbrev pub MatchesAreInOrder : Type 0
MatchesAreInOrder = (s : Statement) (t : List ℕ) → AreInOrder t 0 (all_matches s t)

-- the first of the matches is the one found, with its bindings; there is none exactly if none was found
abbrev pub IsFirst : List ℕ → Found → List Match → Type 0
IsFirst t found [] = found.end ≡ None
IsFirst t found (m ∷ ms) = (hit : Hit) × (found.end ≡ Some hit) × (m ≡ match_of t found hit)

-- The first of all matches is the match of the same statement that isn't for all matches; there is none exactly if that fails.
abbrev pub FirstIsThePlainMatch : Type 0
FirstIsThePlainMatch = (s : Statement) (t : List ℕ) → IsFirst t (outcome t s.rules.bodies s.pattern s.anchored) (all_matches s t)

-- the object's value is what was matched, for each match
abbrev pub AreKept : List Part → List ℕ → List Match → Type 0
AreKept parts t [] = Unit {0}
AreKept parts t (m ∷ ms) = (value_of m.bindings parts ≡ part t m.start m.end) × AreKept parts t ms

-- If the object puts each match back as it was, the new text is the old one.
abbrev pub KeptMatchesKeepTheText : Type 0
KeptMatchesKeepTheText = (parts : List Part) (t : List ℕ) (ms : List Match) → AreInOrder t 0 ms → AreKept parts t ms → replaced parts t 0 ms ≡ t
