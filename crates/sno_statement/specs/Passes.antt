-- One pass over a text: all matches of a statement, from left to right.
use Rattle.std.specs.Prelude.{◌≤◌, ℕ, zero, suc, ◌+◌, ◌-◌, Bool, true, List, [], ◌∷◌, ◌++◌, drop, length, nat_eq, not, ◌&&◌, ◌||◌, Option, Some, None, if◌then◌else◌, refl}
use Rattle.sno_pattern.specs.Ends.{part}
use Rattle.sno_pattern.specs.Outcome.{outcome_from, trials_from}
use Rattle.sno_pattern.specs.declared.found.Found.{Found}
use Rattle.sno_pattern.specs.declared.found.Hit.{Hit}
use Rattle.sno_read.specs.declared.objects.Part.{Part}
use Rattle.sno_statement.specs.declared.match_lists.Match.{Match}
use Rattle.sno_statement.specs.Statement.{Statement, statement_code}
use Rattle.std.specs.Coded.{Coded, code_by, coded×, coded_list, coded_ℕ, coded_option}
use Rattle.sno_pattern.specs.declared.events.Assign.{Assign}
use Rattle.sno_statement.specs.Bindings.{bind_conds, bind_sets, bindings_of}
use Rattle.sno_statement.specs.Value.{value_of}

-- what a search of the text t from cursor c on finds, and how many trials it takes
abbrev pub search : Statement → List ℕ → ℕ → Found
search s t c = outcome_from t s.rules.bodies s.pattern s.anchored c

abbrev pub search_trials : Statement → List ℕ → ℕ → ℕ
search_trials s t c = trials_from t s.rules.bodies s.pattern s.anchored c

-- Where the search after a match begins: at the match's end. If the match is the null string, it begins one further; there is
-- no further search if the statement is anchored, or the match is at the end of the text.
abbrev pub next_search : Bool → List ℕ → Hit → Option ℕ
next_search anchored t hit =
    if not (nat_eq hit.start hit.end) then Some hit.end
    else if anchored || nat_eq hit.end (length t) then None
    else Some (hit.end + 1)

-- A match counts, unless it is the null string at the end of the match before.
abbrev pub counts : Option ℕ → Hit → Bool
counts None hit = true
counts (Some before) hit = not (nat_eq hit.start before && nat_eq hit.end before)

-- a match with the bindings of its search
abbrev pub match_of : List ℕ → Found → Hit → Match
match_of t found hit = record { start = hit.start; end = hit.end; bindings = bindings_of t found }

-- .. which are those of what was assigned at once, and then of the conditional assignments
abbrev pub match_by : List ℕ → List Assign → Hit → Match
match_by t sets hit = record { start = hit.start; end = hit.end; bindings = bind_conds t (bind_sets t [] sets) hit.conds }

-- the matches after a search: the one that it found, if it counts, and then those of the searches that follow
abbrev pub matches_after : Statement → List ℕ → Option ℕ → (Option ℕ → Option ℕ → List Match) → Found → Option Hit → List Match
matches_after s t before go found None = []
matches_after s t before go found (Some hit) =
    (if counts before hit then match_of t found hit ∷ [] else []) ++ go (Some hit.end) (next_search s.anchored t hit)

-- all matches that count in at most n searches, the first of them from this cursor on; `before` is the end of the match before
unfoldable pub matches_from : Statement → List ℕ → ℕ → Option ℕ → Option ℕ → List Match
matches_from s t zero before c = []
matches_from s t (suc n) before None = []
matches_from s t (suc n) before (Some c) = matches_after s t before (matches_from s t n) (search s t c) (search s t c).end

-- the trials of the searches after one
abbrev pub trials_after : Statement → List ℕ → (Option ℕ → ℕ) → Option Hit → ℕ
trials_after s t go None = 0
trials_after s t go (Some hit) = go (next_search s.anchored t hit)

-- the trials of at most n searches together, the first of them from this cursor on
unfoldable pub trials_onward : Statement → List ℕ → ℕ → Option ℕ → ℕ
trials_onward s t zero c = 0
trials_onward s t (suc n) None = 0
trials_onward s t (suc n) (Some c) = search_trials s t c + trials_after s t (trials_onward s t n) (search s t c).end

-- Each search begins past the one before, so there are no more searches than cursors.
abbrev pub most_searches : List ℕ → ℕ
most_searches t = length t + 1

-- all matches of the statement in the text t, and the trials of all searches together
abbrev pub all_matches : Statement → List ℕ → List Match
all_matches s t = matches_from s t (most_searches t) None (Some 0)

abbrev pub all_trials : Statement → List ℕ → ℕ
all_trials s t = trials_onward s t (most_searches t) (Some 0)

-- the text from cursor c on, in which each of these matches is replaced by the object's value for the match's own bindings
abbrev pub replaced : List Part → List ℕ → ℕ → List Match → List ℕ
replaced parts t c [] = drop c t
replaced parts t c (m ∷ ms) = part t c m.start ++ (value_of m.bindings parts ++ replaced parts t m.end ms)

-- A pass, as far as it has come: the end of the match before, the cursor from which the next search goes on, and how many trials
-- were spent. No search is left if there is no such cursor.
pub record Pass : Type 0 where
  pub statement : Statement
  pub text : List ℕ
  pub before : Option ℕ
  pub at : Option ℕ
  pub spent : ℕ

-- a pass is stored as the tuple of its fields
abbrev pub pass_code : Coded Pass
pass_code =
    code_by (Statement × (List ℕ × (Option ℕ × (Option ℕ × ℕ)))) (coded× statement_code (coded× (coded_list coded_ℕ) (coded× (coded_option coded_ℕ) (coded× (coded_option coded_ℕ) coded_ℕ))))
    (λ p. (p.statement, (p.text, (p.before, (p.at, p.spent))))) (λ q. record { statement = q.0; text = q.1.0; before = q.1.1.0; at = q.1.1.1.0; spent = q.1.1.1.1 }) (λ _. refl)

-- as a pass begins
abbrev pub begun : Statement → List ℕ → Pass
begun s t = record { statement = s; text = t; before = None; at = Some 0; spent = 0 }

-- as it is after a search that took these trials, and found this match or none
abbrev pub moved : Pass → ℕ → Option Hit → Pass
moved p trials None = record { statement = p.statement; text = p.text; before = p.before; at = None; spent = p.spent + trials }
moved p trials (Some hit) = record { statement = p.statement; text = p.text; before = Some hit.end; at = next_search p.statement.anchored p.text hit; spent = p.spent + trials }

-- the matches that are still to come
abbrev pub matches_left : Pass → List Match
matches_left p = matches_from p.statement p.text (most_searches p.text) p.before p.at

-- the trials of the whole pass: those that were spent, and those still to come
abbrev pub trials_together : Pass → ℕ
trials_together p = p.spent + trials_onward p.statement p.text (most_searches p.text) p.at

-- from how many cursors a search may still begin
abbrev pub cursors_left : List ℕ → Option ℕ → ℕ
cursors_left t None = 0
cursors_left t (Some c) = length t + 1 - c

-- the cursor, if there is one, is a cursor of the text
abbrev pub IsCursor : List ℕ → Option ℕ → Type 0
IsCursor t None = Unit {0}
IsCursor t (Some c) = c ≤ length t
