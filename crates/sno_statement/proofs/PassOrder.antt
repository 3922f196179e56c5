-- The matches of a pass are in order, the first is the plain match, and matches that are put back leave the text as it was.
use Rattle.std.proofs.Common.{◌≡◌, ℕ, zero, suc, ◌+◌, ◌-◌, ◌≤◌, Bool, true, false, not, ◌||◌, cond, List, [], ◌∷◌, ◌++◌, length, drop, nat_eq, Option, Some, None, IfSome, refl, ap, sym, subst, ◌∙◌, arith}
use Rattle.std.proofs.lemmas.List.{drop-drop, take-append-drop}
use Rattle.sno_pattern.specs.Ends.{part}
use Rattle.sno_pattern.specs.SearchLaws.{LiesFrom}
use Rattle.sno_pattern.specs.declared.found.Found.{Found}
use Rattle.sno_pattern.specs.declared.found.Hit.{Hit}
use Rattle.sno_pattern.proofs.FoundCursors.{from_the_first}
use Rattle.sno_read.specs.declared.objects.Part.{Part}
use Rattle.sno_statement.specs.declared.match_lists.Match.{Match}
use Rattle.sno_statement.specs.Statement.{Statement}
use Rattle.sno_statement.specs.Passes.{IsCursor, all_matches, counts, match_of, matches_after, matches_from, most_searches, next_search, replaced, search}
use Rattle.sno_statement.specs.Laws.{AreInOrder, AreKept, FirstIsThePlainMatch, IsFirst, KeptMatchesKeepTheText, MatchesAreInOrder}
use Rattle.sno_statement.proofs.PassLaws.{lies_at, next_matches, next_past, past_cursor}

-- from the cursor c on, or none
abbrev IsFrom : ℕ → Option ℕ → Type 0
IsFrom c None = Unit {0}
IsFrom c (Some d) = c ≤ d

from_by : (e : ℕ) (same last anchored : Bool) → IsFrom e (cond (not same) (Some e) (cond (anchored || last) None (Some (e + 1))))
from_by e false last anchored = omega arith
from_by e true true true = tt
from_by e true true false = tt
from_by e true false true = tt
from_by e true false false = omega arith

-- no search begins before the end of the match before
next_from : (anchored : Bool) (t : List ℕ) (hit : Hit) → IsFrom hit.end (next_search anchored t hit)
next_from anchored t hit = from_by hit.end (nat_eq hit.start hit.end) (nat_eq hit.end (length t)) anchored

-- what is in order from a cursor on is so from an earlier one on
earlier : (t : List ℕ) (c d : ℕ) (ms : List Match) → c ≤ d → AreInOrder t d ms → AreInOrder t c ms
earlier t c d [] h order = tt
earlier t c d (m ∷ ms) h order = (let first = order.0 in omega arith, order.1, order.2, order.3)

module _ (s : Statement) (t : List ℕ) where
  with_match : (b : Bool) (c : ℕ) (found : Found) (hit : Hit) (ms : List Match) → c ≤ hit.start → hit.start ≤ hit.end → hit.end ≤ length t → AreInOrder t hit.end ms
      → AreInOrder t c (cond b (match_of t found hit ∷ []) [] ++ ms)
  with_match true c found hit ms onward forward within order = (onward, forward, within, order)
  with_match false c found hit ms onward forward within order = earlier t c hit.end ms (omega arith) order

  order_after : (c d : ℕ) (before : Option ℕ) (go : Option ℕ → Option ℕ → List Match) (found : Found) (hit : Option Hit) → c ≤ d → IfSome hit (LiesFrom t d)
      → ((b at : Option ℕ) (e : ℕ) → IsFrom e at → IsCursor t at → AreInOrder t e (go b at)) → d ≤ length t → AreInOrder t c (matches_after s t before go found hit)
  order_after c d before go found None h lies rest inside = tt
  order_after c d before go found (Some hit) h lies rest inside =
      let onward = lies.onward in
      with_match (counts before hit) c found hit (go (Some hit.end) (next_search s.anchored t hit)) (omega arith) lies.forward lies.within
      (rest (Some hit.end) (next_search s.anchored t hit) hit.end (next_from s.anchored t hit) (past_cursor t d (next_search s.anchored t hit) (next_past s.anchored t d hit lies)))

  order : (n : ℕ) (before at : Option ℕ) (c : ℕ) → IsFrom c at → IsCursor t at → AreInOrder t c (matches_from s t n before at)
  unfolding matches_from
  order zero before at c h i = tt
  order (suc n) before None c h i = tt
  order (suc n) before (Some d) c h i = order_after c d before (matches_from s t n) (search s t d) (search s t d).end h (lies_at s t d i) (λ b at e from inside. order n b at e from inside) i

  first_by : (go : Option ℕ → Option ℕ → List Match) (found : Found) (end : Option Hit) → found.end ≡ end → IsFirst t found (matches_after s t None go found end)
  first_by go found None is = is
  first_by go found (Some hit) is = (hit, is, refl)

pub in_order : MatchesAreInOrder
in_order s t = order s t (most_searches t) None (Some 0) 0 (omega arith) (omega arith)

pub first_is_plain : FirstIsThePlainMatch
first_is_plain s t =
    subst (λ (z : Found). IsFirst t z (all_matches s t)) (from_the_first t s.rules.bodies s.pattern s.anchored).0
    (subst (λ (z : List Match). IsFirst t (search s t 0) z) (sym (next_matches s t None 0 (omega arith)))
    (first_by s t (matches_from s t (most_searches t)) (search s t 0) (search s t 0).end refl))

-- a part and what comes after it
part_rest : (t : List ℕ) (c e : ℕ) → c ≤ e → part t c e ++ drop e t ≡ drop c t
part_rest t c e h =
    let there : c + (e - c) ≡ e = omega arith in
    ap (λ (z : ℕ). part t c e ++ drop z t) (sym there) ∙ ap (λ (z : List ℕ). part t c e ++ z) (sym (drop-drop (e - c) c t)) ∙ take-append-drop (e - c) (drop c t)

kept_from : (parts : List Part) (t : List ℕ) (c : ℕ) (ms : List Match) → AreInOrder t c ms → AreKept parts t ms → replaced parts t c ms ≡ drop c t
kept_from parts t c [] order kept = refl
kept_from parts t c (m ∷ ms) order kept =
    ap (λ (z : List ℕ). part t c m.start ++ (z ++ replaced parts t m.end ms)) kept.0
    ∙ ap (λ (z : List ℕ). part t c m.start ++ (part t m.start m.end ++ z)) (kept_from parts t m.end ms order.3 kept.1)
    ∙ ap (λ (z : List ℕ). part t c m.start ++ z) (part_rest t m.start m.end order.1)
    ∙ part_rest t c m.start order.0

pub kept_text : KeptMatchesKeepTheText
kept_text parts t ms order kept = kept_from parts t 0 ms order kept
