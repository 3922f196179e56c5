-- What the calls for gathered searches return.
use Rattle.std.specs.Prelude.{◌≡◌, ◌≢◌, ◌<◌, ◌≤◌, ◌↔◌, ◌⊎◌, ℕ, List, [], ◌∷◌, Option, None, Some, IfSome, is_some, length}
use Rattle.sno_pattern.specs.declared.found.Found.{Found}
use Rattle.sno_pattern.specs.declared.found.Hit.{Hit}
use Rattle.sno_seek.specs.Assignments.{assignments_of}
use Rattle.sno_compiled.specs.Gathered.{gathered, gathered_trials}
use Rattle.sno_compiled.specs.declared.gathered.Gathered.{Gathered}
use Rattle.sno_seek.specs.declared.seeker.Seeker.{Seeker}
use Rattle.sno_statement.specs.Statement.{IsLimit}
use Rattle.sno_c.specs.Patterns.{both_in, no_match, pattern_in, search_status}
use Rattle.sno_c.specs.declared.held.Held.{Held}
use Rattle.sno_c.specs.declared.searches.FoundMatch.{FoundMatch}

-- What gathering leaves of a pattern: what at most that many searches find that follow one another; or, with a refusal by its cause,
-- nothing gathered.
pub record IsGathered (from trials most : ℕ) (t : List ℕ) (p q : Seeker) (status : ℕ) : Type 0 where
  pub same : (q.statement ≡ p.statement) × (q.found ≡ p.found)
  pub gathered : status ≡ 0 → (q.ahead.items ≡ gathered p.statement t most (Some from)) × (gathered_trials p.statement t most (Some from) ≤ trials)
  pub limit : status ≡ 3 ↔ (IsLimit trials → ⊥)
  pub past : status ≡ 10 ↔ (IsLimit trials × (length t < from))
  pub too_many : status ≡ 8 → trials < gathered_trials p.statement t most (Some from)
  pub refused : status ≢ 0 → q.ahead.items ≡ []
  pub known : (status ≡ 0) ⊎ (status ≡ 3) ⊎ (status ≡ 4) ⊎ (status ≡ 8) ⊎ (status ≡ 10) ⊎ (status ≡ 11)

-- What a call that gathers returns. It is refused with 7, and nothing is changed, unless the handles hold a pattern and a text.
pub record IsGatherCall (from trials most : ℕ) (pattern text after : Option Held) (status : ℕ) : Type 0 where
  pub closed : status ≡ 7 ↔ (both_in pattern text ≡ None)
  pub unchanged : status ≡ 7 → after ≡ pattern
  pub gathered : IfSome (both_in pattern text) (λ b. IfSome (pattern_in after) (λ q. IsGathered from trials most b.1 b.0 q status))
  pub same_kind : is_some (pattern_in after) ≡ is_some (pattern_in pattern)

-- what is reported of what a search found, and of where the next one begins
abbrev pub found_seen : Found → ℕ → Option Hit → FoundMatch
found_seen found next None = record { start = 0; end = 0; next = next; assignments = length (assignments_of found) }
found_seen found next (Some hit) = record { start = hit.start; end = hit.end; next = next; assignments = length (assignments_of found) }

-- The first of what was gathered is reported, is what the pattern's last search found from then on, and isn't gathered any more.
abbrev pub IsTakenFrom : List Gathered → List Gathered → FoundMatch → ℕ → Option Found → Type 0
IsTakenFrom before after m status None = ⊥
IsTakenFrom before after m status (Some found) =
    (before ≡ record { found = found; next = m.next } ∷ after) × (m ≡ found_seen found m.next found.end) × (status ≡ search_status found.end)

-- What taking leaves of a pattern, and what it reports: 12 if nothing is gathered.
pub record IsTakenOf (p q : Seeker) (m : FoundMatch) (status : ℕ) : Type 0 where
  pub statement : q.statement ≡ p.statement
  pub taken : status < 2 → IsTakenFrom p.ahead.items q.ahead.items m status q.found
  pub nothing : status ≡ 12 → (p.ahead.items ≡ []) × (q.ahead.items ≡ []) × (q.found ≡ p.found) × (m ≡ no_match)
  pub known : (status < 2) ⊎ (status ≡ 12)

-- What a call that takes returns. It is refused with 7, and nothing is changed, unless the handle holds a pattern.
pub record IsTakeCall (pattern after : Option Held) (m : FoundMatch) (status : ℕ) : Type 0 where
  pub closed : status ≡ 7 ↔ (pattern_in pattern ≡ None)
  pub unchanged : status ≡ 7 → (after ≡ pattern) × (m ≡ no_match)
  pub taken : IfSome (pattern_in pattern) (λ p. IfSome (pattern_in after) (λ q. IsTakenOf p q m status))
  pub same_kind : is_some (pattern_in after) ≡ is_some (pattern_in pattern)
