-- Every End lies at the cursor or after it, and within the text.
use Rattle.std.proofs.Common.{◌≡◌, ℕ, zero, suc, ◌+◌, ◌-◌, ◌<◌, ◌≤◌, Bool, true, false, not, ◌&&◌, cond, List, [], ◌∷◌, ◌++◌, length, drop, Option, Some, None, slice_get, nat_eq, nat_lt, nat_le, arith, length-drop}
use Rattle.std.specs.List.{starts_with, take_while, range_with_len, prefix_len}
use Rattle.std.proofs.lemmas.Bool.{leb-true, and_parts}
use Rattle.std.proofs.lemmas.List.{length-take}
use Rattle.sno_pattern.specs.Tree as tree
use Rattle.sno_pattern.specs.Tree.{Tree}
use Rattle.sno_pattern.specs.Classes.{has}
use Rattle.sno_pattern.specs.Ends.{part, balanced, literal_ends, len_ends, pos_ends, rpos_ends, tab_ends, rtab_ends, one_ends, any_ends, notany_ends, span_ends, break_ends, arb_ends, bal_ends, rem_ends}
use Rattle.sno_pattern.specs.Events.{go_on}
use Rattle.sno_pattern.specs.Results.{rounds, results_of, of_body, definition_results, results}
use Rattle.sno_pattern.specs.Laws.{AllEnds, Within}
use Rattle.sno_pattern.specs.declared.events.Event.{Event}
use Rattle.sno_pattern.proofs.EachEnd.{AllEnds-map, AllEnds-cut, AllEnds-append, AllEnds-go_on, AllEnds-assign_later, AllEnds-assign_now, AllEnds-ends, AllOf, AllOf-filter, AllOf-end_if}

-- a list with which another one begins is no longer than that one
front_fits : (xs s : List ℕ) → starts_with nat_eq xs s ≡ true → length s ≤ length xs
front_fits xs [] h = omega arith
front_fits [] (y ∷ s) h = cc
front_fits (x ∷ xs) (y ∷ s) h = let rest : length s ≤ length xs = front_fits xs s (and_parts (nat_eq y x) _ h).1 in omega arith

-- numbers from a on
pub range_all : (P : ℕ → Type 0) (n a : ℕ) → ((e : ℕ) → a ≤ e → e < a + n → P e) → AllOf P (range_with_len a n)
range_all P zero a h = tt
range_all P (suc n) a h = (h a (omega arith) (omega arith), range_all P n (a + 1) (λ e low high. h e (omega arith) (omega arith)))

pub one_all : (P : ℕ → Type 0) (test : ℕ → Bool) (l : List ℕ) (c : ℕ) → (0 < length l → P (c + 1)) → AllOf P (one_ends test l c)
one_all P test [] c h = tt
one_all P test (x ∷ rest) c h = AllOf-end_if P (test x) (c + 1) (λ _. h (omega arith))

run_le : (t : List ℕ) (c : ℕ) (test : ℕ → Bool) → length (take_while test (drop c t)) ≤ length t - c
run_le t c test = omega (arith, length-take (prefix_len test (drop c t)) (drop c t), length-drop c t)

module _ (t : List ℕ) (c : ℕ) (inside : c ≤ length t) where
  within_literal : (s : List ℕ) → AllOf (Within t c) (literal_ends t s c)
  within_literal s = AllOf-end_if (Within t c) (starts_with nat_eq (drop c t) s) (c + length s) (λ h. let fits = front_fits (drop c t) s h in (omega arith, omega (arith, length-drop c t)))

  within_len : (n : ℕ) → AllOf (Within t c) (len_ends t n c)
  within_len n = AllOf-end_if (Within t c) (nat_le (c + n) (length t)) (c + n) (λ h. (omega arith, leb-true _ _ h))

  within_pos : (n : ℕ) → AllOf (Within t c) (pos_ends n c)
  within_pos n = AllOf-end_if (Within t c) (nat_eq c n) c (λ h. (omega arith, inside))

  within_rpos : (n : ℕ) → AllOf (Within t c) (rpos_ends t n c)
  within_rpos n = AllOf-end_if (Within t c) (nat_eq (c + n) (length t)) c (λ h. (omega arith, inside))

  within_tab : (n : ℕ) → AllOf (Within t c) (tab_ends t n c)
  within_tab n = AllOf-end_if (Within t c) (nat_le c n && nat_le n (length t)) n (λ h. let both = and_parts _ _ h in (leb-true _ _ both.0, leb-true _ _ both.1))

  within_rtab : (n : ℕ) → AllOf (Within t c) (rtab_ends t n c)
  within_rtab n = AllOf-end_if (Within t c) (nat_le (c + n) (length t)) (length t - n) (λ h. let fits = leb-true (c + n) (length t) h in (omega arith, omega arith))

  within_one : (test : ℕ → Bool) → AllOf (Within t c) (one_ends test (drop c t) c)
  within_one test = one_all (Within t c) test (drop c t) c (λ h. (omega arith, omega (arith, length-drop c t)))

  within_span : (s : List ℕ) → AllOf (Within t c) (span_ends t s c)
  within_span s = AllOf-end_if (Within t c) _ _ (λ h. let fits = run_le t c (has s) in (omega arith, omega arith))

  within_break : (s : List ℕ) → AllOf (Within t c) (break_ends t s c)
  within_break s = AllOf-end_if (Within t c) _ _ (λ h. let fits = run_le t c (λ x. not (has s x)) in (omega arith, omega arith))

  within_arb : AllOf (Within t c) (arb_ends t c)
  within_arb = range_all (Within t c) (suc (length t) - c) c (λ e low high. (low, omega arith))

  within_bal : AllOf (Within t c) (bal_ends t c)
  within_bal = AllOf-filter (Within t c) (λ e. balanced 0 (part t c e)) _ (range_all (Within t c) (length t - c) (c + 1) (λ e low high. (omega arith, omega arith)))

  within_rem : AllOf (Within t c) (rem_ends t c)
  within_rem = ((inside, omega arith), tt)

-- what a definition or a pattern does from any cursor of the text
abbrev pub IsWithin : List ℕ → (ℕ → List Event) → Type 0
IsWithin t does = (c : ℕ) → c ≤ length t → AllEnds (Within t c) (does c)

-- going on after a cursor
pub further : (t : List ℕ) (does : ℕ → List Event) → IsWithin t does → (c e : ℕ) → Within t c e → AllEnds (Within t c) (does e)
further t does h c e w = AllEnds-map (Within t e) (Within t c) (λ x v. (omega arith, v.1)) (does e) (h e w.1)

within_go_on : (t : List ℕ) (first second : ℕ → List Event) → IsWithin t first → IsWithin t second → IsWithin t (λ c. go_on (first c) second)
within_go_on t first second h g c i = AllEnds-go_on (Within t c) (Within t c) second (further t second g c) (first c) (h c i)

within_if : (P : ℕ → Type 0) (b : Bool) (l : List Event) → AllEnds P l → AllEnds P (cond b l [])
within_if P true l h = h
within_if P false l h = tt

pub within_rounds : (t : List ℕ) (once : ℕ → List Event) → IsWithin t once → (n : ℕ) → IsWithin t (rounds once n)
within_rounds t once h zero c i = tt
within_rounds t once h (suc n) c i = (
  (omega arith, i),
  AllEnds-go_on (Within t c) (Within t c) (λ e. cond (nat_lt c e) (rounds once n e) [])
      (λ e w. within_if (Within t c) (nat_lt c e) (rounds once n e) (further t (rounds once n) (within_rounds t once h n) c e w))
      (once c) (h c i),
)

-- by the tree, if it holds of what references do
pub within_of : (t : List ℕ) (named : ℕ → ℕ → List Event) → ((i : ℕ) → IsWithin t (named i)) → (p : Tree) → IsWithin t (results_of t named p)
unfolding results_of
within_of t named h (tree.Lit s) c i = AllEnds-ends (Within t c) (literal_ends t s c) (within_literal t c i s)
within_of t named h (tree.Len n) c i = AllEnds-ends (Within t c) (len_ends t n c) (within_len t c i n)
within_of t named h (tree.Pos n) c i = AllEnds-ends (Within t c) (pos_ends n c) (within_pos t c i n)
within_of t named h (tree.Rpos n) c i = AllEnds-ends (Within t c) (rpos_ends t n c) (within_rpos t c i n)
within_of t named h (tree.Tab n) c i = AllEnds-ends (Within t c) (tab_ends t n c) (within_tab t c i n)
within_of t named h (tree.Rtab n) c i = AllEnds-ends (Within t c) (rtab_ends t n c) (within_rtab t c i n)
within_of t named h (tree.AnyOf s) c i = AllEnds-ends (Within t c) (any_ends t s c) (within_one t c i (has s))
within_of t named h (tree.NoneOf s) c i = AllEnds-ends (Within t c) (notany_ends t s c) (within_one t c i (λ x. not (has s x)))
within_of t named h (tree.Span s) c i = AllEnds-ends (Within t c) (span_ends t s c) (within_span t c i s)
within_of t named h (tree.Break s) c i = AllEnds-ends (Within t c) (break_ends t s c) (within_break t c i s)
within_of t named h tree.Arb c i = AllEnds-ends (Within t c) (arb_ends t c) (within_arb t c i)
within_of t named h (tree.Arbno p) c i = within_rounds t (results_of t named p) (within_of t named h p) (length t - c + 1) c i
within_of t named h tree.Bal c i = AllEnds-ends (Within t c) (bal_ends t c) (within_bal t c i)
within_of t named h tree.Rem c i = AllEnds-ends (Within t c) (rem_ends t c) (within_rem t c i)
within_of t named h tree.Fence c i = ((omega arith, i), tt)
within_of t named h tree.Abort c i = tt
within_of t named h tree.Fail c i = tt
within_of t named h (tree.At v) c i = ((omega arith, i), tt)
within_of t named h (tree.Ref j) c i = h j c i
within_of t named h (tree.Seq p q) c i = within_go_on t (results_of t named p) (results_of t named q) (within_of t named h p) (within_of t named h q) c i
within_of t named h (tree.Alt p q) c i =
    AllEnds-cut (Within t c) (results_of t named p c ++ results_of t named q c)
    (AllEnds-append (Within t c) (results_of t named p c) (results_of t named q c) (within_of t named h p c i) (within_of t named h q c i))
within_of t named h (tree.Cond p v) c i = AllEnds-assign_later (Within t c) v c (results_of t named p c) (within_of t named h p c i)
within_of t named h (tree.Imm p v) c i = AllEnds-assign_now (Within t c) v c (results_of t named p c) (within_of t named h p c i)

within_body : (t : List ℕ) (go : Tree → ℕ → List Event) → ((p : Tree) → IsWithin t (go p)) → (body : Option Tree) → IsWithin t (of_body go body)
within_body t go h None c i = tt
within_body t go h (Some p) c i = h p c i

pub within_named : (t : List ℕ) (bodies : List Tree) (k i : ℕ) → IsWithin t (definition_results t bodies k i)
unfolding definition_results
within_named t bodies zero i c inside = tt
within_named t bodies (suc k) i c inside =
    within_body t (results_of t (definition_results t bodies k)) (within_of t (definition_results t bodies k) (within_named t bodies k)) (slice_get bodies i) c inside

-- a match ends nowhere before its cursor, and nowhere past the text
pub within : (t : List ℕ) (bodies : List Tree) (k : ℕ) (p : Tree) (c : ℕ) → c ≤ length t → AllEnds (Within t c) (results t bodies k p c)
within t bodies k p = within_of t (definition_results t bodies k) (within_named t bodies k) p
