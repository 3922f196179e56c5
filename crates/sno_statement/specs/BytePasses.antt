-- Matches in the content of a file, by value.
use Rattle.std.specs.Prelude.{ℕ, List, Option, None, Some}
use Rattle.sno_pattern.specs.Outcome.{outcome, trials}
use Rattle.sno_pattern.specs.declared.found.Found.{Found}
use Rattle.sno_pattern.specs.declared.found.Hit.{Hit}
use Rattle.sno_statement.specs.Passes.{match_of}
use Rattle.sno_statement.specs.Statement.{Statement}
use Rattle.sno_statement.specs.declared.byte_passes.ByteMatch.{ByteMatch}
use Rattle.sno_statement.specs.declared.match_lists.Match.{Match}

-- a match in a text of bytes is that match
abbrev pub byte_match : ByteMatch → Match
byte_match m = record { start = m.start; end = m.end; bindings = m.bindings }

-- the match that a search found, with its bindings
abbrev pub match_found : List ℕ → Found → Option Hit → Option Match
match_found t found None = None
match_found t found (Some hit) = Some (match_of t found hit)

-- the first match of the statement in the text t, as its first round has it
abbrev pub first_match : Statement → List ℕ → Option Match
first_match s t =
    let found = outcome t s.rules.bodies s.pattern s.anchored in
    match_found t found found.end

-- .. and how many trials it takes
abbrev pub first_trials : Statement → List ℕ → ℕ
first_trials s t = trials t s.rules.bodies s.pattern s.anchored
