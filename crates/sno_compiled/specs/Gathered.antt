-- Searches that follow one another in a text, each from where the one before it left off.
use Rattle.std.specs.Prelude.{◌≡◌, ℕ, zero, suc, ◌+◌, Bool, List, [], ◌∷◌, length, Option, None, Some}
use Rattle.sno_pattern.specs.declared.found.Found.{Found}
use Rattle.sno_pattern.specs.declared.found.Hit.{Hit}
use Rattle.sno_statement.specs.Passes.{next_search, search, search_trials}
use Rattle.sno_statement.specs.Statement.{Statement}
use Rattle.sno_compiled.specs.declared.gathered.Gathered.{Gathered}

-- the cursor, or if there is none, one past the end of the text
abbrev pub cursor_or_past : List ℕ → Option ℕ → ℕ
cursor_or_past t None = length t + 1
cursor_or_past t (Some c) = c

-- where the search after one begins, if that one found a match
abbrev pub next_after : Bool → List ℕ → Option Hit → Option ℕ
next_after anchored t None = None
next_after anchored t (Some hit) = next_search anchored t hit

-- what a search found, with where the next one begins
abbrev pub gathered_by : Bool → List ℕ → Found → Gathered
gathered_by anchored t found = record { found = found; next = cursor_or_past t (next_after anchored t found.end) }

-- at most n searches, the first of them from this cursor on
unfoldable pub gathered : Statement → List ℕ → ℕ → Option ℕ → List Gathered
gathered s t zero c = []
gathered s t (suc n) None = []
gathered s t (suc n) (Some c) = gathered_by s.anchored t (search s t c) ∷ gathered s t n (next_after s.anchored t (search s t c).end)

-- .. and how many trials they take together
unfoldable pub gathered_trials : Statement → List ℕ → ℕ → Option ℕ → ℕ
gathered_trials s t zero c = 0
gathered_trials s t (suc n) None = 0
gathered_trials s t (suc n) (Some c) = search_trials s t c + gathered_trials s t n (next_after s.anchored t (search s t c).end)

-- When the first of what was gathered is taken, it is what the last search found, and the rest is still gathered.
abbrev pub IsTaken : List Gathered → List Gathered → Option Found → ℕ → Type 0
IsTaken before after None next = ⊥
IsTaken before after (Some found) next = before ≡ record { found = found; next = next } ∷ after
