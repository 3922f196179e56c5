-- The whole match.
use Rattle.std.proofs.Common.{◌≡◌, ◌≤◌, ◌<◌, ℕ, zero, suc, Bool, List, [], ◌∷◌, ◌++◌, map, refl, ap, ◌∙◌, arith}
use Rattle.std.specs.List.{flat_map}
use Rattle.sno_pattern.specs.Tree.{Tree}
use Rattle.sno_pattern.specs.Results.{enough_depth}
use Rattle.sno_pattern.specs.Outcome.{Tried, starts, starts_from, tried_from, cut_scan, found_in, trials_in, outcome_at, outcome_at_from, trials_at, trials_at_from, trials_from}
use Rattle.sno_pattern.specs.declared.events.Assign.{Assign}
use Rattle.sno_pattern.specs.declared.events.Event.TheVariants as event
use Rattle.sno_trace.specs.declared.events.Noted.{Noted}
use Rattle.sno_trace.specs.declared.events.Noted.TheVariants.{Try, Set, Mark, End, Halt, Stop}
use Rattle.sno_trace.specs.Noted.{erase, noted}
use Rattle.sno_trace.specs.Promise.{Shown, until_ended, first_shown, shown_from, off, until_end, before_stop, IsShownFrom, IsWholeSearch, IsFrontFrom, ShownIsTheMatch, ShownIsAFront, ShownIsFull}
use Rattle.sno_trace.proofs.Erasing.{notes_off}

off-append : (l m : List Shown) → off (l ++ m) ≡ off l ++ off m
off-append [] m = refl
off-append ((s, Try x) ∷ l) m = ap (λ r. (s, event.Try) ∷ r) (off-append l m)
off-append ((s, Set a) ∷ l) m = ap (λ r. (s, event.Set a) ∷ r) (off-append l m)
off-append ((s, Mark d) ∷ l) m = off-append l m
off-append ((s, End e a) ∷ l) m = ap (λ r. (s, event.End e a) ∷ r) (off-append l m)
off-append ((s, Halt) ∷ l) m = ap (λ r. (s, event.Halt) ∷ r) (off-append l m)
off-append ((s, Stop) ∷ l) m = ap (λ r. (s, event.Halt) ∷ r) (off-append l m)

off-map : (s : ℕ) (l : List Noted) → off (map (λ x. (s, x)) l) ≡ map (λ x. (s, x)) (erase l)
off-map s [] = refl
off-map s (Try x ∷ l) = ap (λ r. (s, event.Try) ∷ r) (off-map s l)
off-map s (Set a ∷ l) = ap (λ r. (s, event.Set a) ∷ r) (off-map s l)
off-map s (Mark d ∷ l) = off-map s l
off-map s (End e a ∷ l) = ap (λ r. (s, event.End e a) ∷ r) (off-map s l)
off-map s (Halt ∷ l) = ap (λ r. (s, event.Halt) ∷ r) (off-map s l)
off-map s (Stop ∷ l) = ap (λ r. (s, event.Halt) ∷ r) (off-map s l)

off-until : (l : List Shown) → off (until_ended l) ≡ until_end (off l)
off-until [] = refl
off-until ((s, Try x) ∷ l) = ap (λ r. (s, event.Try) ∷ r) (off-until l)
off-until ((s, Set a) ∷ l) = ap (λ r. (s, event.Set a) ∷ r) (off-until l)
off-until ((s, Mark d) ∷ l) = off-until l
off-until ((s, End e a) ∷ l) = refl
off-until ((s, Halt) ∷ l) = refl
off-until ((s, Stop) ∷ l) = refl

until-cut : (l : List Tried) → until_end l ≡ until_end (cut_scan l)
until-cut [] = refl
until-cut ((s, event.Try) ∷ l) = ap (λ r. (s, event.Try) ∷ r) (until-cut l)
until-cut ((s, event.Set a) ∷ l) = ap (λ r. (s, event.Set a) ∷ r) (until-cut l)
until-cut ((s, event.End e a) ∷ l) = refl
until-cut ((s, event.Halt) ∷ l) = refl

found-until : (sets : List Assign) (l : List Tried) → found_in sets (until_end l) ≡ found_in sets l
found-until sets [] = refl
found-until sets ((s, event.Try) ∷ l) = found-until sets l
found-until sets ((s, event.Set a) ∷ l) = found-until (sets ++ a ∷ []) l
found-until sets ((s, event.End e a) ∷ l) = refl
found-until sets ((s, event.Halt) ∷ l) = refl

trials-until : (l : List Tried) → trials_in (until_end l) ≡ trials_in l
trials-until [] = refl
trials-until ((s, event.Try) ∷ l) = ap suc (trials-until l)
trials-until ((s, event.Set a) ∷ l) = trials-until l
trials-until ((s, event.End e a) ∷ l) = refl
trials-until ((s, event.Halt) ∷ l) = refl

all_first : (l : List Shown) (n : ℕ) → trials_in (off (until_ended l)) ≤ n → first_shown n (until_ended l) ≡ until_ended l
all_first [] n h = refl
all_first ((s, Try x) ∷ l) zero h = absurd (omega arith)
all_first ((s, Try x) ∷ l) (suc n) h = ap (λ r. (s, Try x) ∷ r) (all_first l n (omega arith))
all_first ((s, Set a) ∷ l) n h = ap (λ r. (s, Set a) ∷ r) (all_first l n h)
all_first ((s, Mark d) ∷ l) n h = ap (λ r. (s, Mark d) ∷ r) (all_first l n h)
all_first ((s, End e a) ∷ l) n h = refl
all_first ((s, Halt) ∷ l) n h = refl
all_first ((s, Stop) ∷ l) n h = refl

-- what comes before a Stop is a front
front_off : (l : List Shown) (n : ℕ) → (rest : List Tried) × (off (before_stop (first_shown n l)) ++ rest ≡ off l)
front_off [] n = ([], refl)
front_off ((s, Try x) ∷ l) zero = (off ((s, Try x) ∷ l), refl)
front_off ((s, Try x) ∷ l) (suc n) = let r = front_off l n in (r.0, ap (λ m. (s, event.Try) ∷ m) r.1)
front_off ((s, Set a) ∷ l) n = let r = front_off l n in (r.0, ap (λ m. (s, event.Set a) ∷ m) r.1)
front_off ((s, Mark d) ∷ l) n = front_off l n
front_off ((s, End e a) ∷ l) n = let r = front_off l n in (r.0, ap (λ m. (s, event.End e a) ∷ m) r.1)
front_off ((s, Halt) ∷ l) n = let r = front_off l n in (r.0, ap (λ m. (s, event.Halt) ∷ m) r.1)
front_off ((s, Stop) ∷ l) n = (off ((s, Stop) ∷ l), refl)

-- a Stop comes after as many trials as the limit allows
full : (l : List Shown) (n : ℕ) → n < trials_in (off (until_ended l)) → trials_in (off (before_stop (first_shown n (until_ended l)))) ≡ n
full [] n h = absurd (omega arith)
full ((s, Try x) ∷ l) zero h = refl
full ((s, Try x) ∷ l) (suc n) h = ap suc (full l n (omega (arith, h)))
full ((s, Set a) ∷ l) n h = full l n h
full ((s, Mark d) ∷ l) n h = full l n h
full ((s, End e a) ∷ l) n h = absurd (omega (arith, h))
full ((s, Halt) ∷ l) n h = absurd (omega (arith, h))
full ((s, Stop) ∷ l) n h = absurd (omega (arith, h))

module _ (t : List ℕ) (bodies : List Tree) (k : ℕ) (p : Tree) where
  off-starts : (ss : List ℕ) → off (flat_map (shown_from t bodies k p) ss) ≡ flat_map (tried_from t bodies k p) ss
  off-starts [] = refl
  off-starts (s ∷ ss) =
      off-append (shown_from t bodies k p s) (flat_map (shown_from t bodies k p) ss)
      ∙ ap (λ r. r ++ off (flat_map (shown_from t bodies k p) ss)) (off-map s (noted t bodies k p s) ∙ ap (map (λ x. (s, x))) (notes_off t bodies k p s))
      ∙ ap (λ r. tried_from t bodies k p s ++ r) (off-starts ss)

  off-until-starts : (ss : List ℕ) → off (until_ended (flat_map (shown_from t bodies k p) ss)) ≡ until_end (cut_scan (flat_map (tried_from t bodies k p) ss))
  off-until-starts ss = off-until (flat_map (shown_from t bodies k p) ss) ∙ ap until_end (off-starts ss) ∙ until-cut (flat_map (tried_from t bodies k p) ss)

  trials-of-starts : (ss : List ℕ) → trials_in (off (until_ended (flat_map (shown_from t bodies k p) ss))) ≡ trials_in (cut_scan (flat_map (tried_from t bodies k p) ss))
  trials-of-starts ss = ap trials_in (off-until-starts ss) ∙ trials-until (cut_scan (flat_map (tried_from t bodies k p) ss))

  -- what is shown of these starts, if the limit holds their trials
  whole_starts : (ss : List ℕ) (n : ℕ) (shown : List Shown) → shown ≡ first_shown n (until_ended (flat_map (shown_from t bodies k p) ss)) → trials_in (cut_scan (flat_map (tried_from t bodies k p) ss)) ≤ n
      → (off shown ≡ until_end (cut_scan (flat_map (tried_from t bodies k p) ss))) × (found_in [] (off shown) ≡ found_in [] (cut_scan (flat_map (tried_from t bodies k p) ss))) × (trials_in (off shown) ≡ trials_in (cut_scan (flat_map (tried_from t bodies k p) ss)))
  whole_starts ss n shown is few =
      let all : shown ≡ until_ended (flat_map (shown_from t bodies k p) ss) = is ∙ all_first (flat_map (shown_from t bodies k p) ss) n (omega (arith, trials-of-starts ss, few)) in (
        ap off all ∙ off-until-starts ss,
        ap (found_in []) (ap off all ∙ off-until-starts ss) ∙ found-until [] (cut_scan (flat_map (tried_from t bodies k p) ss)),
        ap trials_in (ap off all) ∙ trials-of-starts ss,
      )

  -- what is shown of them before a Stop
  front_starts : (ss : List ℕ) (n : ℕ) (shown : List Shown) → shown ≡ first_shown n (until_ended (flat_map (shown_from t bodies k p) ss))
      → (rest : List Tried) × (off (before_stop shown) ++ rest ≡ until_end (cut_scan (flat_map (tried_from t bodies k p) ss)))
  front_starts ss n shown is =
      let r = front_off (until_ended (flat_map (shown_from t bodies k p) ss)) n in
      (r.0, ap (λ m. off (before_stop m) ++ r.0) is ∙ r.1 ∙ off-until-starts ss)

  -- what is shown of them, if the limit doesn't hold their trials
  full_starts : (ss : List ℕ) (n : ℕ) (shown : List Shown) → shown ≡ first_shown n (until_ended (flat_map (shown_from t bodies k p) ss)) → n < trials_in (cut_scan (flat_map (tried_from t bodies k p) ss))
      → trials_in (off (before_stop shown)) ≡ n
  full_starts ss n shown is more = ap (λ m. trials_in (off (before_stop m))) is ∙ full (flat_map (shown_from t bodies k p) ss) n (omega (arith, trials-of-starts ss, more))

pub shown_is_the_match : ShownIsTheMatch
unfolding outcome_at trials_at
shown_is_the_match t bodies p anchored n shown is few = whole_starts t bodies (enough_depth t bodies) p (starts t anchored) n shown is few

pub shown_is_a_front : ShownIsAFront
shown_is_a_front t bodies p anchored n shown is = front_starts t bodies (enough_depth t bodies) p (starts t anchored) n shown is

pub shown_is_full : ShownIsFull
unfolding trials_at
shown_is_full t bodies p anchored n shown is more = full_starts t bodies (enough_depth t bodies) p (starts t anchored) n shown is more

-- the same, of a search from a cursor on
pub shown_is_the_search : (t : List ℕ) (bodies : List Tree) (p : Tree) (anchored : Bool) (c n : ℕ) (shown : List Shown)
    → IsShownFrom t bodies p anchored c n shown → trials_from t bodies p anchored c ≤ n → IsWholeSearch t bodies p anchored c shown
unfolding outcome_at_from trials_at_from
shown_is_the_search t bodies p anchored c n shown is few = whole_starts t bodies (enough_depth t bodies) p (starts_from t anchored c) n shown is few

pub shown_begins_the_search : (t : List ℕ) (bodies : List Tree) (p : Tree) (anchored : Bool) (c n : ℕ) (shown : List Shown) → IsShownFrom t bodies p anchored c n shown → IsFrontFrom t bodies p anchored c shown
shown_begins_the_search t bodies p anchored c n shown is = front_starts t bodies (enough_depth t bodies) p (starts_from t anchored c) n shown is

pub search_is_full : (t : List ℕ) (bodies : List Tree) (p : Tree) (anchored : Bool) (c n : ℕ) (shown : List Shown)
    → IsShownFrom t bodies p anchored c n shown → n < trials_from t bodies p anchored c → trials_in (off (before_stop shown)) ≡ n
unfolding trials_at_from
search_is_full t bodies p anchored c n shown is more = full_starts t bodies (enough_depth t bodies) p (starts_from t anchored c) n shown is more
