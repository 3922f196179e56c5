-- The matches of one statement don't go back.
use Rattle.std.proofs.Common.{◌≡◌, ◌≤◌, ℕ, Bool, true, false, List, [], ◌∷◌, ◌++◌, length, map, Option, if◌then◌else◌, ap, subst, sym, ◌∙◌, arith}
use Rattle.sno_pattern.specs.Outcome.{outcome}
use Rattle.sno_pattern.specs.declared.found.Found.{Found}
use Rattle.sno_pattern.specs.declared.found.Hit.{Hit as FoundHit}
use Rattle.sno_statement.specs.BytePasses.{first_match, match_found}
use Rattle.sno_statement.specs.Laws.{AreInOrder, FirstIsThePlainMatch, IsFirst, MatchesAreInOrder}
use Rattle.sno_statement.specs.Passes.{all_matches}
use Rattle.sno_statement.specs.Statement.{Statement}
use Rattle.sno_statement.specs.declared.match_lists.Match.{Match}
use Rattle.sno_edit.specs.Edits.{is_for}
use Rattle.sno_edit.specs.declared.trials.Trials.{Trials}
use Rattle.sno_find.specs.Findings.{AreRising, Hit, hit_of, hits_of, hits_seen, limited, match_list, sought}
use Rattle.sno_find.specs.declared.hits.Hit.{Hit as StoredHit}

-- hits that don't go back before a place don't go back before an earlier one
earlier : (bytes c d : ℕ) (hits : List Hit) → c ≤ d → AreRising bytes d hits → AreRising bytes c hits
earlier bytes c d [] le up = tt
earlier bytes c d (hit ∷ hits) le up = (omega (arith, le, up.0), up.1, up.2)

all_rising : (t : List ℕ) (number c : ℕ) (ms : List Match) → AreInOrder t c ms → AreRising (length t) c (map (hit_of number) ms)
all_rising t number c [] order = tt
all_rising t number c (m ∷ ms) order = (
  order.0,
  omega (arith, order.1, order.2),
  earlier (length t) m.start m.end (map (hit_of number) ms) order.1 (all_rising t number m.end ms order.3),
)

first_rising : (t : List ℕ) (number : ℕ) (found : Found) (ms : List Match) → IsFirst t found ms → AreInOrder t 0 ms
    → AreRising (length t) 0 (map (hit_of number) (match_list (match_found t found found.end)))
first_rising t number found [] first order =
    subst (λ (e : Option FoundHit). AreRising (length t) 0 (map (hit_of number) (match_list (match_found t found e)))) (sym first) tt
first_rising t number found (m ∷ ms) first order =
    let same : m.start ≡ first.0.start = ap (λ (z : Match). z.start) first.2 in
    let start : first.0.start ≤ length t = omega (arith, order.1, order.2, same) in
    subst (λ (e : Option FoundHit). AreRising (length t) 0 (map (hit_of number) (match_list (match_found t found e)))) (sym first.1)
    (omega arith, start, tt)

module _ (order : MatchesAreInOrder) (first : FirstIsThePlainMatch) where
  sought_rising : (t : List ℕ) (number : ℕ) (s : Statement) → AreRising (length t) 0 (map (hit_of number) (sought s t))
  sought_rising t number s = by s.all
    where
      by : (all : Bool) → AreRising (length t) 0 (map (hit_of number) (if all then all_matches s t else match_list (first_match s t)))
      by true = all_rising t number 0 (all_matches s t) (order s t)
      by false = first_rising t number (outcome t s.rules.bodies s.pattern s.anchored) (all_matches s t) (first s t) (order s t)

  pub one_rising : (trials : Trials) (path t : List ℕ) (s : Statement) → AreRising (length t) 0 (hits_of trials path t s)
  one_rising trials path t s = by (is_for path s)
    where
      by : (it_is : Bool) → AreRising (length t) 0 (if it_is then map (hit_of s.number) (sought (limited trials t s) t) else [])
      by true = sought_rising t s.number (limited trials t s)
      by false = tt

-- the hits that were added to none are all hits
pub first_added : (old new : List StoredHit) (hits : List Hit) → old ≡ [] → hits_seen new ≡ hits_seen old ++ hits → hits_seen new ≡ hits
first_added old new hits none is = is ∙ ap (λ (z : List StoredHit). hits_seen z ++ hits) none
