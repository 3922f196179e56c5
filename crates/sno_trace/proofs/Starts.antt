-- The starts of a match, one after the other, within a limit of trials.
use Rattle.std.proofs.Common.{◌≡◌, ℕ, zero, suc, ◌+◌, ◌-◌, ◌≤◌, ◌<◌, Bool, true, false, List, [], ◌∷◌, ◌++◌, cond, length, map, take, Some, None, ap, sym, ◌∙◌, arith, refl, append_assoc}
use Rattle.std.proofs.lemmas.List.{append-nil}
use Rattle.std.proofs.lemmas.Iterator.Adapters.{position_from-zero}
use Rattle.std.specs.List.{flat_map, range_with_len, list_any, position, position_from}
use Rattle.sno_pattern.specs.Tree.{Tree}
use Rattle.sno_pattern.specs.Results.{enough_depth}
use Rattle.sno_pattern.specs.Outcome.{starts, starts_from}
use Rattle.sno_trace.specs.declared.events.Noted.{Noted}
use Rattle.sno_trace.specs.declared.events.Noted.TheVariants.{Try, Set, Mark, End, Halt, Stop}
use Rattle.sno_trace.specs.Noted.{noted, upto}
use Rattle.sno_trace.specs.Steps.{is_ending, trials_of}
use Rattle.sno_trace.specs.Promise.{Shown, IsShown, IsShownFrom, is_stop, until_ended, first_shown, shown_from, noted_search, is_past, shown_up_to}
use Rattle.sno_trace.proofs.Ranges.{up_to, up_to_more}

-- a start whose events end nothing is shown whole
until_all : (s : ℕ) (l : List Noted) → list_any is_ending l ≡ false → until_ended (map (λ x. (s, x)) l) ≡ map (λ x. (s, x)) l
until_all s [] h = refl
until_all s (Try x ∷ l) h = ap (λ r. (s, Try x) ∷ r) (until_all s l h)
until_all s (Set a ∷ l) h = ap (λ r. (s, Set a) ∷ r) (until_all s l h)
until_all s (Mark d ∷ l) h = ap (λ r. (s, Mark d) ∷ r) (until_all s l h)
until_all s (End e a ∷ l) h = cc
until_all s (Halt ∷ l) h = cc
until_all s (Stop ∷ l) h = cc

-- the next start has the trials that are left
open_start : (n s : ℕ) (l : List Noted) (m : List Shown) → list_any is_ending (upto n l) ≡ false
    → first_shown n (until_ended (map (λ x. (s, x)) l ++ m)) ≡ map (λ x. (s, x)) (upto n l) ++ first_shown (n - trials_of (upto n l)) (until_ended m)
open_start n s [] m h = let e : n ≡ n - 0 = omega arith in ap (λ k. first_shown k (until_ended m)) e
open_start zero s (Try x ∷ l) m h = cc
open_start (suc n) s (Try x ∷ l) m h =
    let e : n - trials_of (upto n l) ≡ suc n - suc (trials_of (upto n l)) = omega arith in
    ap (λ r. (s, Try x) ∷ r) (open_start n s l m h ∙ ap (λ k. map (λ x. (s, x)) (upto n l) ++ first_shown k (until_ended m)) e)
open_start n s (Set a ∷ l) m h = ap (λ r. (s, Set a) ∷ r) (open_start n s l m h)
open_start n s (Mark d ∷ l) m h = ap (λ r. (s, Mark d) ∷ r) (open_start n s l m h)
open_start n s (End e a ∷ l) m h = cc
open_start n s (Halt ∷ l) m h = cc
open_start n s (Stop ∷ l) m h = cc

-- nothing comes after a start that ends the match
ended_start : (n s : ℕ) (l : List Noted) (m : List Shown) → list_any is_ending (upto n l) ≡ true
    → first_shown n (until_ended (map (λ x. (s, x)) l ++ m)) ≡ until_ended (map (λ x. (s, x)) (upto n l))
ended_start n s [] m h = cc
ended_start zero s (Try x ∷ l) m h = refl
ended_start (suc n) s (Try x ∷ l) m h = ap (λ r. (s, Try x) ∷ r) (ended_start n s l m h)
ended_start n s (Set a ∷ l) m h = ap (λ r. (s, Set a) ∷ r) (ended_start n s l m h)
ended_start n s (Mark d ∷ l) m h = ap (λ r. (s, Mark d) ∷ r) (ended_start n s l m h)
ended_start n s (End e a ∷ l) m h = refl
ended_start n s (Halt ∷ l) m h = refl
ended_start n s (Stop ∷ l) m h = refl

module _ (t : List ℕ) (bodies : List Tree) (k : ℕ) (p : Tree) (total : List Shown) where
  -- one start, and the match goes on
  pub next_start : (n r s last : ℕ) (all new : List Shown) (events : List Noted) → s ≤ last → events ≡ upto n (noted t bodies k p s) → false ≡ list_any is_ending events → r ≡ n - trials_of events
      → new ≡ all ++ until_ended (map (λ x. (s, x)) events)
      → all ++ first_shown n (until_ended (flat_map (shown_from t bodies k p) (up_to s last))) ≡ total
      → new ++ first_shown r (until_ended (flat_map (shown_from t bodies k p) (up_to (s + 1) last))) ≡ total
  next_start n r s last all new events h are goes less added e =
      let rest : List Shown = flat_map (shown_from t bodies k p) (up_to (s + 1) last) in
      ap (λ m. m ++ first_shown r (until_ended rest)) (added ∙ ap (λ m. all ++ m) (until_all s events (sym goes)))
      ∙ append_assoc all (map (λ x. (s, x)) events) (first_shown r (until_ended rest))
      ∙ ap (λ j. all ++ (map (λ x. (s, x)) events ++ first_shown j (until_ended rest))) less
      ∙ ap (λ m. all ++ (map (λ x. (s, x)) m ++ first_shown (n - trials_of m) (until_ended rest))) are
      ∙ sym (ap (λ m. all ++ m) (open_start n s (noted t bodies k p s) rest (sym (goes ∙ ap (list_any is_ending) are))))
      ∙ sym (ap (λ m. all ++ first_shown n (until_ended (flat_map (shown_from t bodies k p) m))) (up_to_more s last h))
      ∙ e

  -- one start, and the match ends
  pub final_start : (n s last : ℕ) (all new : List Shown) (events : List Noted) → s ≤ last → events ≡ upto n (noted t bodies k p s) → true ≡ list_any is_ending events
      → new ≡ all ++ until_ended (map (λ x. (s, x)) events)
      → all ++ first_shown n (until_ended (flat_map (shown_from t bodies k p) (up_to s last))) ≡ total
      → new ≡ total
  final_start n s last all new events h are ends added e =
      let rest : List Shown = flat_map (shown_from t bodies k p) (up_to (s + 1) last) in
      added
      ∙ ap (λ m. all ++ until_ended (map (λ x. (s, x)) m)) are
      ∙ sym (ap (λ m. all ++ m) (ended_start n s (noted t bodies k p s) rest (sym (ends ∙ ap (list_any is_ending) are))))
      ∙ sym (ap (λ m. all ++ first_shown n (until_ended (flat_map (shown_from t bodies k p) m))) (up_to_more s last h))
      ∙ e

  -- no start is left
  pub no_start : (n s last : ℕ) (all : List Shown) → last < s → all ++ first_shown n (until_ended (flat_map (shown_from t bodies k p) (up_to s last))) ≡ total → all ≡ total
  no_start n s last all h e =
      let none : suc last - s ≡ 0 = omega arith in
      sym (append-nil all)
      ∙ sym (ap (λ j. all ++ first_shown n (until_ended (flat_map (shown_from t bodies k p) (range_with_len s j)))) none)
      ∙ e

-- all starts are still to be tried
pub all_starts : (t : List ℕ) (bodies : List Tree) (k : ℕ) (p : Tree) (anchored : Bool) (c limit last : ℕ) (all : List Shown) → all ≡ [] → k ≡ enough_depth t bodies → range_with_len c (last + 1 - c) ≡ starts_from t anchored c
    → all ++ first_shown limit (until_ended (flat_map (shown_from t bodies k p) (up_to c last))) ≡ first_shown limit (noted_search t bodies (enough_depth t bodies) p anchored c)
all_starts t bodies k p anchored c limit last all none deep are =
    let same : suc last - c ≡ last + 1 - c = omega arith in
    ap (λ m. m ++ first_shown limit (until_ended (flat_map (shown_from t bodies k p) (up_to c last)))) none
    ∙ ap (λ j. first_shown limit (until_ended (flat_map (shown_from t bodies k p) (range_with_len c j)))) same
    ∙ ap (λ m. first_shown limit (until_ended (flat_map (shown_from t bodies k p) m))) are
    ∙ ap (λ j. first_shown limit (noted_search t bodies j p anchored c)) deep

-- the starts of a search from a cursor on
pub single_start : (t : List ℕ) (c : ℕ) → range_with_len c (c + 1 - c) ≡ starts_from t true c
single_start t c = let one : c + 1 - c ≡ 1 = omega arith in ap (range_with_len c) one

pub each_start : (t : List ℕ) (c : ℕ) → range_with_len c (length t + 1 - c) ≡ starts_from t false c
each_start t c = refl

-- the starts of a search from cursor 0 are those of a match
pub starts_same : (t : List ℕ) (anchored : Bool) → starts_from t anchored 0 ≡ starts t anchored
starts_same t true = refl
starts_same t false = let same : length t + 1 - 0 ≡ length t + 1 = omega arith in ap (range_with_len 0) same

-- what is shown of a search from cursor 0 is shown of a match
pub shown_from_first : (t : List ℕ) (bodies : List Tree) (p : Tree) (anchored : Bool) (n : ℕ) (shown : List Shown) → IsShownFrom t bodies p anchored 0 n shown → IsShown t bodies p anchored n shown
shown_from_first t bodies p anchored n shown is = is ∙ ap (λ m. first_shown n (until_ended (flat_map (shown_from t bodies (enough_depth t bodies) p) m))) (starts_same t anchored)

-- What shows no Stop within a limit is the same within a higher one.
pub settled : (m n : ℕ) (l : List Shown) → m ≤ n → list_any is_stop (first_shown m (until_ended l)) ≡ false → first_shown m (until_ended l) ≡ first_shown n (until_ended l)
settled m n [] h none = refl
settled zero n ((s, Try x) ∷ l) h none = cc
settled (suc m) zero ((s, Try x) ∷ l) h none = absurd (omega (arith, h))
settled (suc m) (suc n) ((s, Try x) ∷ l) h none = ap (λ r. (s, Try x) ∷ r) (settled m n l (omega (arith, h)) none)
settled m n ((s, Set a) ∷ l) h none = ap (λ r. (s, Set a) ∷ r) (settled m n l h none)
settled m n ((s, Mark d) ∷ l) h none = ap (λ r. (s, Mark d) ∷ r) (settled m n l h none)
settled m n ((s, End e a) ∷ l) h none = refl
settled m n ((s, Halt) ∷ l) h none = refl
settled m n ((s, Stop) ∷ l) h none = cc

-- the same, of a search
pub settled_search : (t : List ℕ) (bodies : List Tree) (p : Tree) (anchored : Bool) (c m n : ℕ) (shown same : List Shown) → m ≤ n → false ≡ list_any is_stop same → same ≡ shown
    → IsShownFrom t bodies p anchored c m shown → IsShownFrom t bodies p anchored c n shown
settled_search t bodies p anchored c m n shown same h none are is =
    let all : List Shown = flat_map (shown_from t bodies (enough_depth t bodies) p) (starts_from t anchored c) in
    is ∙ settled m n all h (ap (list_any is_stop) (sym (are ∙ is)) ∙ sym none)

-- If a later start is found, what is shown is cut before it ..
past_one : (n i : ℕ) (x : Shown) (l : List Shown) (p : ℕ) (b : Bool) → cond b (Some i) (position_from (is_past n) (i + 1) l) ≡ Some p
    → (position_from (is_past n) (i + 1) l ≡ Some p → (i + 1 ≤ p) × (take (p - (i + 1)) l ≡ shown_up_to n l))
    → (i ≤ p) × (take (p - i) (x ∷ l) ≡ cond b [] (x ∷ shown_up_to n l))
past_one n i x l p true h later =
    let same : i ≡ p = cc in
    let e : p - i ≡ 0 = omega arith in
    (omega arith, ap (λ k. take k (x ∷ l)) e)
past_one n i x l p false h later =
    let r = later h in
    let e : p - i ≡ suc (p - (i + 1)) = omega (arith, r.0) in
    (omega (arith, r.0), ap (λ k. take k (x ∷ l)) e ∙ ap (λ m. x ∷ m) r.1)

past_from : (n i : ℕ) (l : List Shown) (p : ℕ) → position_from (is_past n) i l ≡ Some p → (i ≤ p) × (take (p - i) l ≡ shown_up_to n l)
past_from n i [] p h = cc
past_from n i (x ∷ l) p h = past_one n i x l p (is_past n x) h (past_from n (i + 1) l p)

pub past_found : (n : ℕ) (l : List Shown) (p : ℕ) → position (is_past n) l ≡ Some p → take p l ≡ shown_up_to n l
past_found n l p h = let e : p ≡ p - 0 = omega arith in ap (λ k. take k l) e ∙ (past_from n 0 l p (sym (position_from-zero (is_past n) l) ∙ h)).1

-- .. and if none is found, it stays.
none_past_one : (n i : ℕ) (x : Shown) (l : List Shown) (b : Bool) → cond b (Some i) (position_from (is_past n) (i + 1) l) ≡ None
    → (position_from (is_past n) (i + 1) l ≡ None → l ≡ shown_up_to n l) → x ∷ l ≡ cond b [] (x ∷ shown_up_to n l)
none_past_one n i x l true h later = cc
none_past_one n i x l false h later = ap (λ m. x ∷ m) (later h)

none_past_from : (n i : ℕ) (l : List Shown) → position_from (is_past n) i l ≡ None → l ≡ shown_up_to n l
none_past_from n i [] h = refl
none_past_from n i (x ∷ l) h = none_past_one n i x l (is_past n x) h (none_past_from n (i + 1) l)

pub none_past : (n : ℕ) (l : List Shown) → position (is_past n) l ≡ None → l ≡ shown_up_to n l
none_past n l h = none_past_from n 0 l (sym (position_from-zero (is_past n) l) ∙ h)
