-- What the calls with handles return: a status, and what they change.
use Rattle.std.specs.Prelude.{◌≡◌, ◌<◌, ◌≤◌, ◌↔◌, ◌⊎◌, ◌+◌, ℕ, List, Option, None, Some, IfSome, is_some, length}
use Rattle.std.specs.Option.{option_zip}
use Rattle.sno_pattern.specs.declared.found.Found.{Found}
use Rattle.sno_pattern.specs.declared.found.Hit.{Hit}
use Rattle.sno_seek.specs.Assignments.{assignments_of}
use Rattle.sno_compiled.specs.Gathered.{cursor_or_past}
use Rattle.sno_seek.specs.declared.seeker.Seeker.{Seeker}
use Rattle.sno_statement.specs.Passes.{next_search, search, search_trials}
use Rattle.sno_statement.specs.Statement.{Statement, IsLimit}
use Rattle.sno_c.specs.declared.held.Held.{Held}
use Rattle.sno_c.specs.declared.held.Held.TheVariants.{Book, Pattern, Text}
use Rattle.sno_c.specs.declared.searches.FoundMatch.{FoundMatch}

-- the pattern that a handle holds, if it holds one
abbrev pub pattern_in : Option Held → Option Seeker
pattern_in None = None
pattern_in (Some (Pattern p)) = Some p
pattern_in (Some (Text t)) = None
pattern_in (Some (Book b)) = None

-- the text that a handle holds, if it holds one
abbrev pub text_in : Option Held → Option (List ℕ)
text_in None = None
text_in (Some (Pattern p)) = None
text_in (Some (Text t)) = Some t
text_in (Some (Book b)) = None

-- the pattern and the text of two handles, if the first holds a pattern and the second a text
abbrev pub both_in : Option Held → Option Held → Option (Seeker × List ℕ)
both_in pattern text = option_zip (pattern_in pattern) (text_in text)

-- what is reported of a search that was refused
abbrev pub no_match : FoundMatch
no_match = record { start = 0; end = 0; next = 0; assignments = 0 }

-- what is reported of what a search found: the cursors of its match, if there is one, the cursor from which the next search of a
-- pass begins, and how many assignments the search did
abbrev pub match_seen : Statement → List ℕ → Found → Option Hit → FoundMatch
match_seen s t found None = record { start = 0; end = 0; next = length t + 1; assignments = length (assignments_of found) }
match_seen s t found (Some hit) =
    record { start = hit.start; end = hit.end; next = cursor_or_past t (next_search s.anchored t hit); assignments = length (assignments_of found) }

-- 0 if there is a match, 1 if there is none
abbrev pub search_status : Option Hit → ℕ
search_status None = 1
search_status (Some hit) = 0

-- What a search from a cursor leaves of a pattern, and what it reports: the search of the statement's pattern in the text, with
-- what was found and its status; or a refusal, by its cause.
pub record IsSearched (from trials : ℕ) (t : List ℕ) (p q : Seeker) (m : FoundMatch) (status : ℕ) : Type 0 where
  pub statement : q.statement ≡ p.statement
  pub ahead : q.ahead.items ≡ p.ahead.items
  pub searched : status < 2 → (q.found ≡ Some (search p.statement t from)) × (m ≡ match_seen p.statement t (search p.statement t from) (search p.statement t from).end)
      × (status ≡ search_status (search p.statement t from).end) × (search_trials p.statement t from ≤ trials)
  pub limit : status ≡ 3 ↔ (IsLimit trials → ⊥)
  pub past : status ≡ 10 ↔ (IsLimit trials × (length t < from))
  pub too_many : status ≡ 8 → trials < search_trials p.statement t from
  pub refused : 2 ≤ status → (q.found ≡ None) × (m ≡ no_match)
  pub known : (status < 2) ⊎ (status ≡ 3) ⊎ (status ≡ 4) ⊎ (status ≡ 8) ⊎ (status ≡ 10) ⊎ (status ≡ 11)

-- What a call for a search returns. It is refused with 7, and nothing is changed, unless the handles hold a pattern and a text.
pub record IsSearchCall (from trials : ℕ) (pattern text after : Option Held) (m : FoundMatch) (status : ℕ) : Type 0 where
  pub closed : status ≡ 7 ↔ (both_in pattern text ≡ None)
  pub unchanged : status ≡ 7 → (after ≡ pattern) × (m ≡ no_match)
  pub searched : IfSome (both_in pattern text) (λ b. IfSome (pattern_in after) (λ q. IsSearched from trials b.1 b.0 q m status))
  pub same_kind : is_some (pattern_in after) ≡ is_some (pattern_in pattern)
