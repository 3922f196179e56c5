-- Matches as they are kept: their assignments are in one list, and their strings are parts of the text.
use Rattle.std.specs.Prelude.{◌-◌, ℕ, List, take, drop}
use Rattle.sno_statement.specs.declared.last_assignments.Last.{Last}
use Rattle.sno_statement.specs.declared.match_lists.Match.{Match}
use Rattle.sno_statement.specs.declared.match_lists.MatchRef.{MatchRef}
use Rattle.sno_statement.specs.declared.match_lists.Span.{Span}
use Rattle.sno_statement.specs.LastAssignments.{values_of_last}

-- variables, each with its last assignment
abbrev pub LastList : Type 0
LastList = List (List ℕ × Last)

-- the elements from one place up to another
abbrev pub list_part : {V : Type 0} → List V → ℕ → ℕ → List V
list_part list from to = take (to - from) (drop from list)

-- a match that is lent is that match
abbrev pub match_lent : MatchRef → Match
match_lent m = record { start = m.start; end = m.end; bindings = m.bindings }

-- the match of a span: its bindings are the values of its own assignments
abbrev pub match_seen : List ℕ → LastList → Span → Match
match_seen t assigned span = record { start = span.start; end = span.end; bindings = values_of_last t (list_part assigned span.from span.to) }
