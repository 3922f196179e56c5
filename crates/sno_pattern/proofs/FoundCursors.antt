-- What a search finds lies from its cursor on, and within the text; a search from cursor 0 is a match.
use Rattle.std.proofs.Common.{◌≡◌, ℕ, ◌+◌, ◌-◌, ◌≤◌, Bool, true, false, List, [], ◌∷◌, ◌++◌, length, map, refl, ap, arith}
use Rattle.std.specs.Prelude.{IfSome}
use Rattle.std.specs.List.{flat_map, range_with_len}
use Rattle.sno_pattern.specs.Tree.{Tree}
use Rattle.sno_pattern.specs.Laws.{AllEnds, Within}
use Rattle.sno_pattern.specs.SearchLaws.{LiesFrom, SearchFromTheFirst, SearchesLieWithin}
use Rattle.sno_pattern.specs.Results.{results, enough_depth}
use Rattle.sno_pattern.specs.Outcome.{Tried, starts, starts_from, tried_from, cut_scan, scan_from, found_in, trials_in, outcome_at, outcome, outcome_at_from, outcome_from, trials_at, trials, trials_at_from, trials_from}
use Rattle.sno_pattern.specs.declared.events.Assign.{Assign}
use Rattle.sno_pattern.specs.declared.events.Event.{Event}
use Rattle.sno_pattern.specs.declared.events.Event.TheVariants.{Try, Set, End, Halt}
use Rattle.sno_pattern.proofs.EachEnd.{AllOf}
use Rattle.sno_pattern.proofs.Within.{range_all, within}
use Rattle.sno_pattern.proofs.AssignedCursors.{outcome_from_lies}

module _ (t : List ℕ) (c : ℕ) where
  -- each End lies from the cursor on
  abbrev AllLie : List Tried → Type 0
  AllLie [] = Unit {0}
  AllLie ((s, Try) ∷ l) = AllLie l
  AllLie ((s, Set a) ∷ l) = AllLie l
  AllLie ((s, End e a) ∷ l) = LiesFrom t c (record { start = s; end = e; conds = a }) × AllLie l
  AllLie ((s, Halt) ∷ l) = AllLie l

  lie_cut : (l : List Tried) → AllLie l → AllLie (cut_scan l)
  lie_cut [] h = tt
  lie_cut ((s, Try) ∷ l) h = lie_cut l h
  lie_cut ((s, Set a) ∷ l) h = lie_cut l h
  lie_cut ((s, End e a) ∷ l) h = (h.0, lie_cut l h.1)
  lie_cut ((s, Halt) ∷ l) h = tt

  lie_append : (l m : List Tried) → AllLie l → AllLie m → AllLie (l ++ m)
  lie_append [] m h g = g
  lie_append ((s, Try) ∷ l) m h g = lie_append l m h g
  lie_append ((s, Set a) ∷ l) m h g = lie_append l m h g
  lie_append ((s, End e a) ∷ l) m h g = (h.0, lie_append l m h.1 g)
  lie_append ((s, Halt) ∷ l) m h g = lie_append l m h g

  lie_map : (s : ℕ) → c ≤ s → (l : List Event) → AllEnds (Within t s) l → AllLie (map (λ e. (s, e)) l)
  lie_map s past [] h = tt
  lie_map s past (Try ∷ l) h = lie_map s past l h
  lie_map s past (Set a ∷ l) h = lie_map s past l h
  lie_map s past (End e a ∷ l) h = (record { onward = past; forward = h.0.0; within = h.0.1 }, lie_map s past l h.1)
  lie_map s past (Halt ∷ l) h = lie_map s past l h

  -- a start from the cursor on, within the text
  abbrev IsStart : ℕ → Type 0
  IsStart s = (c ≤ s) × (s ≤ length t)

  lie_starts : (bodies : List Tree) (k : ℕ) (p : Tree) (l : List ℕ) → AllOf IsStart l → AllLie (flat_map (tried_from t bodies k p) l)
  lie_starts bodies k p [] h = tt
  lie_starts bodies k p (s ∷ l) h =
      lie_append (tried_from t bodies k p s) (flat_map (tried_from t bodies k p) l) (lie_map s h.0.0 (results t bodies k p s) (within t bodies k p s h.0.1))
      (lie_starts bodies k p l h.1)

  starts_lie : (anchored : Bool) → c ≤ length t → AllOf IsStart (starts_from t anchored c)
  starts_lie true inside = ((omega arith, inside), tt)
  starts_lie false inside = range_all IsStart (length t + 1 - c) c (λ s low high. (low, omega arith))

  found_at : (sets : List Assign) (l : List Tried) → AllLie l → IfSome (found_in sets l).end (LiesFrom t c)
  found_at sets [] h = tt
  found_at sets ((s, Try) ∷ l) h = found_at sets l h
  found_at sets ((s, Set a) ∷ l) h = found_at (sets ++ a ∷ []) l h
  found_at sets ((s, End e a) ∷ l) h = h.0
  found_at sets ((s, Halt) ∷ l) h = tt

hit_lies : (k : ℕ) (t : List ℕ) (bodies : List Tree) (p : Tree) (anchored : Bool) (c : ℕ) → c ≤ length t → IfSome (outcome_at_from t bodies k p anchored c).end (LiesFrom t c)
unfolding outcome_at_from
hit_lies k t bodies p anchored c inside =
    found_at t c [] (scan_from t bodies k p anchored c)
    (lie_cut t c (flat_map (tried_from t bodies k p) (starts_from t anchored c)) (lie_starts t c bodies k p (starts_from t anchored c) (starts_lie t c anchored inside)))

pub searches_lie : SearchesLieWithin
searches_lie k t bodies p anchored c inside = (hit_lies k t bodies p anchored c inside, outcome_from_lies k t bodies p anchored c inside)

-- the starts of a search from cursor 0 are those of a match
starts_same : (t : List ℕ) (anchored : Bool) → starts_from t anchored 0 ≡ starts t anchored
starts_same t true = refl
starts_same t false = let same : length t + 1 - 0 ≡ length t + 1 = omega arith in ap (range_with_len 0) same

outcome_same : (t : List ℕ) (bodies : List Tree) (p : Tree) (anchored : Bool) → outcome_from t bodies p anchored 0 ≡ outcome t bodies p anchored
unfolding outcome_at outcome_at_from
outcome_same t bodies p anchored = ap (λ z. found_in [] (cut_scan (flat_map (tried_from t bodies (enough_depth t bodies) p) z))) (starts_same t anchored)

trials_same : (t : List ℕ) (bodies : List Tree) (p : Tree) (anchored : Bool) → trials_from t bodies p anchored 0 ≡ trials t bodies p anchored
unfolding trials_at trials_at_from
trials_same t bodies p anchored = ap (λ z. trials_in (cut_scan (flat_map (tried_from t bodies (enough_depth t bodies) p) z))) (starts_same t anchored)

pub from_the_first : SearchFromTheFirst
from_the_first t bodies p anchored = (outcome_same t bodies p anchored, trials_same t bodies p anchored)
