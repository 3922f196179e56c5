-- The search of a pass that finds the match with a number, or the last search if there is no such match.
use Rattle.std.specs.Prelude.{◌<◌, ◌≤◌, ℕ, zero, suc, ◌+◌, ◌-◌, Bool, true, false, List, length, nat_eq, nat_lt, ◌&&◌, Option, Some, None, if◌then◌else◌}
use Rattle.sno_pattern.specs.declared.found.Hit.{Hit}
use Rattle.sno_statement.specs.Statement.{Statement}
use Rattle.sno_statement.specs.Passes.{search, search_trials, next_search, counts, most_searches}
use Rattle.sno_traces.specs.declared.searches.PassSearch.{PassSearch}
use Rattle.sno_traces.specs.declared.searches.AfterSearch.{AfterSearch}
use Rattle.sno_traces.specs.declared.searches.AfterSearch.TheVariants.{Next, Done}
use Rattle.sno_traces.specs.declared.searches.Sought.{Sought}

-- the search after one that found this match; if there is none, the pass ends with it
abbrev pub next_after : Statement → List ℕ → PassSearch → Hit → Option ℕ → AfterSearch
next_after s t p hit None = Done (counts p.before hit)
next_after s t p hit (Some c) = Next (record { before = Some hit.end; from = c; left = p.left - search_trials s t p.from; matches = if counts p.before hit then p.matches + 1 else p.matches })

-- What comes after a search. It is the one that is sought if its match counts, and as many others as are wanted came before.
abbrev pub after_found : Statement → List ℕ → ℕ → PassSearch → Option Hit → AfterSearch
after_found s t earlier p None = Done false
after_found s t earlier p (Some hit) = if counts p.before hit && nat_eq p.matches earlier then Done true else next_after s t p hit (next_search s.anchored t hit)

-- A search that takes more trials than are left ends the pass.
abbrev pub after_search : Statement → List ℕ → ℕ → PassSearch → AfterSearch
after_search s t earlier p = if nat_lt p.left (search_trials s t p.from) then Done false else after_found s t earlier p (search s t p.from).end

-- as a pass begins
abbrev pub first_search : Statement → PassSearch
first_search s = record { before = None; from = 0; left = s.limit; matches = 0 }

abbrev pub sought_after : PassSearch → (PassSearch → Sought) → AfterSearch → Sought
sought_after p go (Done c) = record { search = p; counts = c }
sought_after p go (Next q) = go q

-- what is sought in at most n searches, this one first
unfoldable pub sought_from : Statement → List ℕ → ℕ → ℕ → PassSearch → Sought
sought_from s t earlier zero p = record { search = p; counts = false }
sought_from s t earlier (suc n) p = sought_after p (sought_from s t earlier n) (after_search s t earlier p)

-- the search that finds the match that counts after as many others, or the last one
abbrev pub sought_in : Statement → List ℕ → ℕ → Sought
sought_in s t earlier = sought_from s t earlier (most_searches t) (first_search s)

-- a search that follows begins within the text, and no more matches came before than are wanted
abbrev pub GoesOn : List ℕ → ℕ → AfterSearch → Type 0
GoesOn t earlier (Done c) = Unit {0}
GoesOn t earlier (Next q) = (q.from ≤ length t) × (q.matches ≤ earlier)
