-- A cursor that is assigned at once lies within the text.
use Rattle.std.proofs.Common.{ℕ, zero, suc, ◌+◌, ◌-◌, ◌≤◌, Bool, true, false, cond, List, [], ◌∷◌, ◌++◌, length, Option, Some, None, slice_get, nat_lt, map, arith}
use Rattle.std.specs.List.{flat_map, range_with_len}
use Rattle.sno_pattern.specs.Tree as tree
use Rattle.sno_pattern.specs.Tree.{Tree}
use Rattle.sno_pattern.specs.Ends.{literal_ends, len_ends, pos_ends, rpos_ends, tab_ends, rtab_ends, any_ends, notany_ends, span_ends, break_ends, arb_ends, bal_ends, rem_ends}
use Rattle.sno_pattern.specs.Events.{CondList, cut, put_before, spread, go_on, assign_later, assign_now}
use Rattle.sno_pattern.specs.Results.{ends, further_ends, rounds, results_of, of_body, definition_results, results}
use Rattle.sno_pattern.specs.Laws.{AllEnds, Within}
use Rattle.sno_pattern.specs.CursorLaws.{CursorLies, CursorsLie, SetsLie}
use Rattle.sno_pattern.specs.Outcome.{Tried, starts, starts_from, tried_from, cut_scan, scan, scan_from, found_in, outcome_at, outcome_at_from}
use Rattle.sno_pattern.specs.declared.events.Assign.{Assign}
use Rattle.sno_pattern.specs.declared.events.Event.{Event}
use Rattle.sno_pattern.specs.declared.events.Event.TheVariants.{Try, Set, End, Halt}
use Rattle.sno_pattern.proofs.EachEnd.{AllEnds-map}
use Rattle.sno_pattern.proofs.Within.{IsWithin, within_of, within_named}

module _ (t : List ℕ) where
  lies_cut : (l : List Event) → CursorsLie t l → CursorsLie t (cut l)
  lies_cut [] h = tt
  lies_cut (Try ∷ l) h = lies_cut l h
  lies_cut (Set a ∷ l) h = (h.0, lies_cut l h.1)
  lies_cut (End e a ∷ l) h = lies_cut l h
  lies_cut (Halt ∷ l) h = tt

  lies_append : (l m : List Event) → CursorsLie t l → CursorsLie t m → CursorsLie t (l ++ m)
  lies_append [] m h g = g
  lies_append (Try ∷ l) m h g = lies_append l m h g
  lies_append (Set a ∷ l) m h g = (h.0, lies_append l m h.1 g)
  lies_append (End e a ∷ l) m h g = lies_append l m h g
  lies_append (Halt ∷ l) m h g = lies_append l m h g

  lies_put_before : (a : CondList) (l : List Event) → CursorsLie t l → CursorsLie t (put_before a l)
  lies_put_before a [] h = tt
  lies_put_before a (Try ∷ l) h = lies_put_before a l h
  lies_put_before a (Set b ∷ l) h = (h.0, lies_put_before a l h.1)
  lies_put_before a (End e b ∷ l) h = lies_put_before a l h
  lies_put_before a (Halt ∷ l) h = lies_put_before a l h

  lies_spread : (f : ℕ → List Event) → ((e : ℕ) → e ≤ length t → CursorsLie t (f e)) → (l : List Event) → AllEnds (λ e. e ≤ length t) l → CursorsLie t l → CursorsLie t (spread l f)
  lies_spread f each [] w h = tt
  lies_spread f each (Try ∷ l) w h = lies_spread f each l w h
  lies_spread f each (Set a ∷ l) w h = (h.0, lies_spread f each l w h.1)
  lies_spread f each (End e a ∷ l) w h = lies_append (put_before a (f e)) (spread l f) (lies_put_before a (f e) (each e w.0)) (lies_spread f each l w.1 h)
  lies_spread f each (Halt ∷ l) w h = lies_spread f each l w h

  lies_go_on : (f : ℕ → List Event) → ((e : ℕ) → e ≤ length t → CursorsLie t (f e)) → (l : List Event) → AllEnds (λ e. e ≤ length t) l → CursorsLie t l → CursorsLie t (go_on l f)
  lies_go_on f each l w h = lies_cut (spread l f) (lies_spread f each l w h)

  lies_later : (v : List ℕ) (c : ℕ) (l : List Event) → CursorsLie t l → CursorsLie t (assign_later v c l)
  lies_later v c [] h = tt
  lies_later v c (Try ∷ l) h = lies_later v c l h
  lies_later v c (Set a ∷ l) h = (h.0, lies_later v c l h.1)
  lies_later v c (End e a ∷ l) h = lies_later v c l h
  lies_later v c (Halt ∷ l) h = lies_later v c l h

  lies_now : (v : List ℕ) (c : ℕ) (l : List Event) → CursorsLie t l → CursorsLie t (assign_now v c l)
  lies_now v c [] h = tt
  lies_now v c (Try ∷ l) h = lies_now v c l h
  lies_now v c (Set a ∷ l) h = (h.0, lies_now v c l h.1)
  lies_now v c (End e a ∷ l) h = (tt, lies_now v c l h)
  lies_now v c (Halt ∷ l) h = lies_now v c l h

  lies_further : (es : List ℕ) → CursorsLie t (further_ends es)
  lies_further [] = tt
  lies_further (e ∷ es) = lies_further es

  lies_ends : (es : List ℕ) → CursorsLie t (ends es)
  lies_ends [] = tt
  lies_ends (e ∷ es) = lies_further es

  -- the second half of `Within`
  below : (c : ℕ) (l : List Event) → AllEnds (Within t c) l → AllEnds (λ e. e ≤ length t) l
  below c l h = AllEnds-map (Within t c) (λ e. e ≤ length t) (λ e w. w.1) l h

  abbrev Lies : (ℕ → List Event) → Type 0
  Lies does = (c : ℕ) → c ≤ length t → CursorsLie t (does c)

  lies_if : (b : Bool) (l : List Event) → CursorsLie t l → CursorsLie t (cond b l [])
  lies_if true l h = h
  lies_if false l h = tt

  lies_rounds : (once : ℕ → List Event) → IsWithin t once → Lies once → (n : ℕ) → Lies (rounds once n)
  lies_rounds once w h zero c i = tt
  lies_rounds once w h (suc n) c i =
      lies_go_on (λ e. cond (nat_lt c e) (rounds once n e) []) (λ e j. lies_if (nat_lt c e) (rounds once n e) (lies_rounds once w h n e j)) (once c)
      (below c (once c) (w c i)) (h c i)

  module _ (named : ℕ → ℕ → List Event) (within : (i : ℕ) → IsWithin t (named i)) (lies : (i : ℕ) → Lies (named i)) where
    lies_of : (p : Tree) → Lies (results_of t named p)
    unfolding results_of
    lies_of (tree.Lit s) c i = lies_ends (literal_ends t s c)
    lies_of (tree.Len n) c i = lies_ends (len_ends t n c)
    lies_of (tree.Pos n) c i = lies_ends (pos_ends n c)
    lies_of (tree.Rpos n) c i = lies_ends (rpos_ends t n c)
    lies_of (tree.Tab n) c i = lies_ends (tab_ends t n c)
    lies_of (tree.Rtab n) c i = lies_ends (rtab_ends t n c)
    lies_of (tree.AnyOf s) c i = lies_ends (any_ends t s c)
    lies_of (tree.NoneOf s) c i = lies_ends (notany_ends t s c)
    lies_of (tree.Span s) c i = lies_ends (span_ends t s c)
    lies_of (tree.Break s) c i = lies_ends (break_ends t s c)
    lies_of tree.Arb c i = lies_ends (arb_ends t c)
    lies_of (tree.Arbno p) c i = lies_rounds (results_of t named p) (within_of t named within p) (lies_of p) (length t - c + 1) c i
    lies_of tree.Bal c i = lies_ends (bal_ends t c)
    lies_of tree.Rem c i = lies_ends (rem_ends t c)
    lies_of tree.Fence c i = tt
    lies_of tree.Abort c i = tt
    lies_of tree.Fail c i = tt
    lies_of (tree.At v) c i = (i, tt)
    lies_of (tree.Ref j) c i = lies j c i
    lies_of (tree.Seq p q) c i =
        lies_go_on (results_of t named q) (lies_of q) (results_of t named p c) (below c (results_of t named p c) (within_of t named within p c i)) (lies_of p c i)
    lies_of (tree.Alt p q) c i = lies_cut (results_of t named p c ++ results_of t named q c) (lies_append (results_of t named p c) (results_of t named q c) (lies_of p c i) (lies_of q c i))
    lies_of (tree.Cond p v) c i = lies_later v c (results_of t named p c) (lies_of p c i)
    lies_of (tree.Imm p v) c i = lies_now v c (results_of t named p c) (lies_of p c i)

  lies_body : (go : Tree → ℕ → List Event) → ((p : Tree) → Lies (go p)) → (body : Option Tree) → Lies (of_body go body)
  lies_body go h None c i = tt
  lies_body go h (Some p) c i = h p c i

  lies_named : (bodies : List Tree) (k i : ℕ) → Lies (definition_results t bodies k i)
  unfolding definition_results
  lies_named bodies zero i c inside = tt
  lies_named bodies (suc k) i c inside =
      lies_body (results_of t (definition_results t bodies k)) (lies_of (definition_results t bodies k) (within_named t bodies k) (lies_named bodies k)) (slice_get bodies i) c inside

-- each cursor that is assigned at once lies within the text
pub cursors_lie : (t : List ℕ) (bodies : List Tree) (k : ℕ) (p : Tree) (c : ℕ) → c ≤ length t → CursorsLie t (results t bodies k p c)
cursors_lie t bodies k p = lies_of t (definition_results t bodies k) (within_named t bodies k) (lies_named t bodies k) p

-- where the assignments gathered from a scan lie
module _ (t : List ℕ) where
  abbrev TriedLies : List Tried → Type 0
  TriedLies [] = Unit {0}
  TriedLies ((s, Try) ∷ l) = TriedLies l
  TriedLies ((s, Set a) ∷ l) = CursorLies t a.what × TriedLies l
  TriedLies ((s, End e a) ∷ l) = TriedLies l
  TriedLies ((s, Halt) ∷ l) = TriedLies l

  tried_cut : (l : List Tried) → TriedLies l → TriedLies (cut_scan l)
  tried_cut [] h = tt
  tried_cut ((s, Try) ∷ l) h = tried_cut l h
  tried_cut ((s, Set a) ∷ l) h = (h.0, tried_cut l h.1)
  tried_cut ((s, End e a) ∷ l) h = tried_cut l h
  tried_cut ((s, Halt) ∷ l) h = tt

  tried_append : (l m : List Tried) → TriedLies l → TriedLies m → TriedLies (l ++ m)
  tried_append [] m h g = g
  tried_append ((s, Try) ∷ l) m h g = tried_append l m h g
  tried_append ((s, Set a) ∷ l) m h g = (h.0, tried_append l m h.1 g)
  tried_append ((s, End e a) ∷ l) m h g = tried_append l m h g
  tried_append ((s, Halt) ∷ l) m h g = tried_append l m h g

  tried_map : (s : ℕ) (l : List Event) → CursorsLie t l → TriedLies (map (λ e. (s, e)) l)
  tried_map s [] h = tt
  tried_map s (Try ∷ l) h = tried_map s l h
  tried_map s (Set a ∷ l) h = (h.0, tried_map s l h.1)
  tried_map s (End e a ∷ l) h = tried_map s l h
  tried_map s (Halt ∷ l) h = tried_map s l h

  -- the starts of a list, each within the text
  abbrev AllBelow : List ℕ → Type 0
  AllBelow [] = Unit {0}
  AllBelow (s ∷ l) = (s ≤ length t) × AllBelow l

  tried_starts : (bodies : List Tree) (k : ℕ) (p : Tree) (l : List ℕ) → AllBelow l → TriedLies (flat_map (tried_from t bodies k p) l)
  tried_starts bodies k p [] h = tt
  tried_starts bodies k p (s ∷ l) h =
      tried_append (tried_from t bodies k p s) (flat_map (tried_from t bodies k p) l) (tried_map s (results t bodies k p s) (cursors_lie t bodies k p s h.0))
      (tried_starts bodies k p l h.1)

  range_below : (n a : ℕ) → a + n ≤ length t + 1 → AllBelow (range_with_len a n)
  range_below zero a h = tt
  range_below (suc n) a h = (omega arith, range_below n (a + 1) (omega arith))

  starts_below : (anchored : Bool) → AllBelow (starts t anchored)
  starts_below true = (omega arith, tt)
  starts_below false = range_below (length t + 1) 0 (omega arith)

  starts_from_below : (anchored : Bool) (c : ℕ) → c ≤ length t → AllBelow (starts_from t anchored c)
  starts_from_below true c inside = (inside, tt)
  starts_from_below false c inside = range_below (length t + 1 - c) c (omega arith)

  sets_push : (sets : List Assign) (a : Assign) → SetsLie t sets → CursorLies t a.what → SetsLie t (sets ++ a ∷ [])
  sets_push [] a h g = (g, tt)
  sets_push (b ∷ sets) a h g = (h.0, sets_push sets a h.1 g)

  found_lies : (sets : List Assign) (l : List Tried) → SetsLie t sets → TriedLies l → SetsLie t (found_in sets l).sets
  found_lies sets [] h g = h
  found_lies sets ((s, Try) ∷ l) h g = found_lies sets l h g
  found_lies sets ((s, Set a) ∷ l) h g = found_lies (sets ++ a ∷ []) l (sets_push sets a h g.0) g.1
  found_lies sets ((s, End e a) ∷ l) h g = h
  found_lies sets ((s, Halt) ∷ l) h g = h

-- each cursor that a match assigned lies within the text
pub outcome_lies : (k : ℕ) (t : List ℕ) (bodies : List Tree) (p : Tree) (anchored : Bool) → SetsLie t (outcome_at t bodies k p anchored).sets
unfolding outcome_at
outcome_lies k t bodies p anchored =
    found_lies t [] (scan t bodies k p anchored) tt
    (tried_cut t (flat_map (tried_from t bodies k p) (starts t anchored)) (tried_starts t bodies k p (starts t anchored) (starts_below t anchored)))

-- each cursor that a search assigned lies within the text
pub outcome_from_lies : (k : ℕ) (t : List ℕ) (bodies : List Tree) (p : Tree) (anchored : Bool) (c : ℕ) → c ≤ length t → SetsLie t (outcome_at_from t bodies k p anchored c).sets
unfolding outcome_at_from
outcome_from_lies k t bodies p anchored c inside =
    found_lies t [] (scan_from t bodies k p anchored c) tt
    (tried_cut t (flat_map (tried_from t bodies k p) (starts_from t anchored c)) (tried_starts t bodies k p (starts_from t anchored c) (starts_from_below t anchored c inside)))
