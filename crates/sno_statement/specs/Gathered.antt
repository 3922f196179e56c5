-- The matches of a pass, as they are found.
use Rattle.std.specs.Prelude.{◌≡◌, ◌++◌, ℕ, List, map}
use Rattle.sno_statement.specs.declared.match_lists.Match.{Match}
use Rattle.sno_statement.specs.declared.gathered.Gathered.{Gathered}
use Rattle.sno_statement.specs.MatchLists.{LastList, match_seen}

-- these matches of the text t were gathered, whatever is assigned after them
abbrev pub AreGathered : List ℕ → Gathered → List Match → Type 0
AreGathered t g matches = (more : LastList) → map (match_seen t (g.assigned.items ++ more)) g.spans.items ≡ matches
