-- All hits start in the text.
use Rattle.std.proofs.Common.{◌≡◌, ◌≤◌, ℕ, Bool, true, false, List, [], ◌∷◌, length, map, Option, if◌then◌else◌, ap, subst, sym, arith}
use Rattle.std.proofs.lemmas.List.Elements.{All-nil, All-cons, All-append}
use Rattle.std.specs.List.{All}
use Rattle.sno_pattern.specs.Outcome.{outcome}
use Rattle.sno_pattern.specs.declared.found.Found.{Found}
use Rattle.sno_pattern.specs.declared.found.Hit.{Hit as FoundHit}
use Rattle.sno_statement.specs.BytePasses.{first_match, match_found}
use Rattle.sno_statement.specs.Laws.{AreInOrder, FirstIsThePlainMatch, IsFirst, MatchesAreInOrder}
use Rattle.sno_statement.specs.Passes.{all_matches, match_of}
use Rattle.sno_statement.specs.Statement.{Statement}
use Rattle.sno_statement.specs.declared.match_lists.Match.{Match}
use Rattle.sno_edit.specs.Edits.{is_for}
use Rattle.sno_edit.specs.declared.trials.Trials.{Trials}
use Rattle.sno_find.specs.Findings.{Hit, all_hits, hit_of, hits_of, limited, match_list, sought}

-- the hit starts in a text of this length
abbrev pub StartsWithin : ℕ → Hit → Type 0
StartsWithin bytes hit = hit.found.start ≤ bytes

-- matches that are in order lie in the text
all_within : (t : List ℕ) (number c : ℕ) (ms : List Match) → AreInOrder t c ms → All (StartsWithin (length t)) (map (hit_of number) ms)
all_within t number c [] order = All-nil (StartsWithin (length t))
all_within t number c (m ∷ ms) order =
    let start : m.start ≤ length t = omega (arith, order.1, order.2) in
    All-cons (StartsWithin (length t)) (hit_of number m) (map (hit_of number) ms) start (all_within t number m.end ms order.3)

-- .. and the first of them is the match of the first search
first_within : (t : List ℕ) (number : ℕ) (found : Found) (ms : List Match) → IsFirst t found ms → AreInOrder t 0 ms
    → All (StartsWithin (length t)) (map (hit_of number) (match_list (match_found t found found.end)))
first_within t number found [] first order =
    subst (λ (e : Option FoundHit). All (StartsWithin (length t)) (map (hit_of number) (match_list (match_found t found e)))) (sym first) (All-nil (StartsWithin (length t)))
first_within t number found (m ∷ ms) first order =
    let same : m.start ≡ first.0.start = ap (λ (z : Match). z.start) first.2 in
    let start : first.0.start ≤ length t = omega (arith, order.1, order.2, same) in
    subst (λ (e : Option FoundHit). All (StartsWithin (length t)) (map (hit_of number) (match_list (match_found t found e)))) (sym first.1)
    (All-cons (StartsWithin (length t)) (hit_of number (match_of t found first.0)) [] start (All-nil (StartsWithin (length t))))

module _ (order : MatchesAreInOrder) (first : FirstIsThePlainMatch) where
  sought_within : (t : List ℕ) (number : ℕ) (s : Statement) → All (StartsWithin (length t)) (map (hit_of number) (sought s t))
  sought_within t number s = by s.all
    where
      by : (all : Bool) → All (StartsWithin (length t)) (map (hit_of number) (if all then all_matches s t else match_list (first_match s t)))
      by true = all_within t number 0 (all_matches s t) (order s t)
      by false = first_within t number (outcome t s.rules.bodies s.pattern s.anchored) (all_matches s t) (first s t) (order s t)

  statement_within : (trials : Trials) (path t : List ℕ) (s : Statement) → All (StartsWithin (length t)) (hits_of trials path t s)
  statement_within trials path t s = by (is_for path s)
    where
      by : (it_is : Bool) → All (StartsWithin (length t)) (if it_is then map (hit_of s.number) (sought (limited trials t s) t) else [])
      by true = sought_within t s.number (limited trials t s)
      by false = All-nil (StartsWithin (length t))

  pub hits_within : (trials : Trials) (path t : List ℕ) (statements : List Statement) → All (StartsWithin (length t)) (all_hits trials path t statements)
  hits_within trials path t [] = All-nil (StartsWithin (length t))
  hits_within trials path t (s ∷ statements) =
      All-append (StartsWithin (length t)) (hits_of trials path t s) (all_hits trials path t statements) (statement_within trials path t s) (hits_within trials path t statements)
