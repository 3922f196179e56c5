-- What is found in the text of a file.
use Rattle.std.specs.Prelude.{◌≡◌, ◌≤◌, ℕ, Bool, ◌&&◌, List, [], ◌∷◌, ◌++◌, length, map, nat_lt, slice_get, Option, None, Some, if◌then◌else◌}
use Rattle.std.specs.List.Sorted.{IsPermutation, IsSortedByKey}
use Rattle.std.specs.Option.{option_map}
use Rattle.std.specs.Ordering.{nat_cmp, ordering_then}
use Rattle.std.specs.declared.cmp.Ordering.{Ordering}
use Rattle.sno_statement.specs.BytePasses.{byte_match, first_match, first_trials}
use Rattle.sno_statement.specs.Passes.{all_matches, all_trials}
use Rattle.sno_statement.specs.Statement.{Statement, with_limit}
use Rattle.sno_statement.specs.declared.match_lists.Match.{Match}
use Rattle.sno_edit.specs.Edits.{is_for}
use Rattle.sno_edit.specs.Positions.{position_of}
use Rattle.sno_edit.specs.Rules.{FileRules}
use Rattle.sno_edit.specs.Trials.{trials_for}
use Rattle.sno_edit.specs.declared.trials.Trials.{Trials}
use Rattle.sno_find.specs.declared.faults.FindFault.{FindFault}
use Rattle.sno_find.specs.declared.faults.FindFault.TheVariants.{HistoryTooLong, Memory, TooManyTrials}
use Rattle.sno_find.specs.declared.findings.Finding.{Finding}
use Rattle.sno_find.specs.declared.hits.Hit.{Hit as StoredHit}

abbrev pub match_list : Option Match → List Match
match_list None = []
match_list (Some m) = m ∷ []

-- the matches of a statement that are found: all of one for all matches, and the first of any other
abbrev pub sought : Statement → List ℕ → List Match
sought s text = if s.all then all_matches s text else match_list (first_match s text)

-- how many trials they take
abbrev pub sought_trials : Statement → List ℕ → ℕ
sought_trials s text = if s.all then all_trials s text else first_trials s text

-- a match with the number of its statement
pub record Hit : Type 0 where
  pub statement : ℕ
  pub found : Match

abbrev pub hit_of : ℕ → Match → Hit
hit_of number m = record { statement = number; found = m }

-- the statement with the trials that it may take on this text
abbrev pub limited : Trials → List ℕ → Statement → Statement
limited trials text s = with_limit s (trials_for trials (length text))

-- the matches of a statement in the text of the file with this path: none if it isn't for the file
abbrev pub hits_of : Trials → List ℕ → List ℕ → Statement → List Hit
hits_of trials path text s = if is_for path s then map (hit_of s.number) (sought (limited trials text s) text) else []

-- those of several statements, one after the other
abbrev pub all_hits : Trials → List ℕ → List ℕ → List Statement → List Hit
all_hits trials path text [] = []
all_hits trials path text (s ∷ statements) = hits_of trials path text s ++ all_hits trials path text statements

-- a statement is refused if it is for the file and takes more trials than it may
abbrev pub is_refused : Trials → List ℕ → List ℕ → Statement → Bool
is_refused trials path text s = is_for path s && nat_lt (trials_for trials (length text)) (sought_trials (limited trials text s) text)

-- the number of the first statement that is refused
abbrev pub first_refused : Trials → List ℕ → List ℕ → List Statement → Option ℕ
first_refused trials path text [] = None
first_refused trials path text (s ∷ statements) = if is_refused trials path text s then Some s.number else first_refused trials path text statements

-- hits go by where they start, and those that start at one place by the numbers of their statements
abbrev pub place_of : Hit → ℕ × ℕ
place_of hit = (hit.found.start, hit.statement)

abbrev pub by_place : ℕ × ℕ → ℕ × ℕ → Ordering
by_place a b = ordering_then (nat_cmp a.0 b.0) (nat_cmp a.1 b.1)

-- each hit starts in a text of this length, and none before the place c or before the hit before it
abbrev pub AreRising : ℕ → ℕ → List Hit → Type 0
AreRising bytes c [] = Unit {0}
AreRising bytes c (hit ∷ hits) = (c ≤ hit.found.start) × (hit.found.start ≤ bytes) × AreRising bytes hit.found.start hits

-- a hit as it is reported, with the position of its start
abbrev pub finding_of : List ℕ → Hit → Finding
finding_of text hit = record { statement = hit.statement; start = position_of text hit.found.start; end = hit.found.end; bindings = hit.found.bindings }

-- These are the findings: all hits of the rules, in order.
pub record AreFound (rules : FileRules) (path text : List ℕ) (findings : List Finding) : Type 0 where
  pub hits : List Hit
  pub all : IsPermutation (all_hits rules.trials path text rules.statements) hits
  pub ordered : IsSortedByKey place_of by_place hits
  pub found : findings ≡ map (finding_of text) hits

-- one of the statements has this number
abbrev pub HasNumber : ℕ → List Statement → Type 0
HasNumber number statements = (place : ℕ) × (option_map (λ s. s.number) (slice_get statements place) ≡ Some number)

-- why nothing is found; of a history that would be too long, only whose it is
abbrev pub HasCause : FileRules → List ℕ → List ℕ → FindFault → Type 0
HasCause rules path text (TooManyTrials number) = first_refused rules.trials path text rules.statements ≡ Some number
HasCause rules path text (HistoryTooLong number) = HasNumber number rules.statements
HasCause rules path text Memory = Unit {0}

-- hits as they are kept
abbrev pub hit_seen : StoredHit → Hit
hit_seen hit = record { statement = hit.statement; found = byte_match hit.found }

abbrev pub hits_seen : List StoredHit → List Hit
hits_seen hits = map hit_seen hits
