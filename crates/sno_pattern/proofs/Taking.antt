-- A part that takes ends past the cursor at which it begins.
use Rattle.std.proofs.Common.{◌≡◌, ℕ, zero, suc, ◌+◌, ◌-◌, ◌<◌, ◌≤◌, true, not, List, [], ◌∷◌, ◌++◌, length, drop, Some, None, slice_get, nat_eq, nat_le, refl, ap, arith}
use Rattle.std.specs.List.{starts_with, take_while, range_with_len}
use Rattle.std.proofs.lemmas.Bool.{not-true, eqb-false}
use Rattle.sno_pattern.specs.Tree.{Tree}
use Rattle.sno_pattern.specs.Classes.{has}
use Rattle.sno_pattern.specs.Ends.{part, balanced, literal_ends, len_ends, any_ends, notany_ends, span_ends, bal_ends}
use Rattle.sno_pattern.specs.Results.{results_of, of_body, definition_results, results}
use Rattle.sno_pattern.specs.Laws.{AllEnds, Within}
use Rattle.sno_pattern.specs.Guard as guard
use Rattle.sno_pattern.specs.Guard.{Takes}
use Rattle.sno_pattern.proofs.EachEnd.{AllEnds-map, AllEnds-both, AllEnds-cut, AllEnds-append, AllEnds-go_on, AllEnds-assign_later, AllEnds-assign_now, AllEnds-ends, AllOf, AllOf-filter, AllOf-end_if}
use Rattle.sno_pattern.proofs.Within.{within, range_all, one_all}

-- what a definition does is what its body does with one reference fewer
pub named_body : (t : List ℕ) (bodies : List Tree) (k i c : ℕ) (body : Tree) → slice_get bodies i ≡ Some body → definition_results t bodies (suc k) i c ≡ results t bodies k body c
unfolding definition_results
named_body t bodies k i c body is = ap (λ o. of_body (results t bodies k) o c) is

-- if there is no definition, nothing
pub named_none : (t : List ℕ) (bodies : List Tree) (k i c : ℕ) → slice_get bodies i ≡ None → definition_results t bodies k i c ≡ []
unfolding definition_results
named_none t bodies zero i c is = refl
named_none t bodies (suc k) i c is = ap (λ o. of_body (results t bodies k) o c) is

-- no events at all if the depth is used up
named_zero : (t : List ℕ) (bodies : List Tree) (i c : ℕ) → definition_results t bodies 0 i c ≡ []
unfolding definition_results
named_zero t bodies i c = refl

abbrev Past : ℕ → ℕ → Type 0
Past c e = c < e

past_literal : (t : List ℕ) (x : ℕ) (s : List ℕ) (c : ℕ) → AllOf (Past c) (literal_ends t (x ∷ s) c)
past_literal t x s c = AllOf-end_if (Past c) (starts_with nat_eq (drop c t) (x ∷ s)) (c + length (x ∷ s)) (λ h. omega arith)

past_len : (t : List ℕ) (n c : ℕ) → AllOf (Past c) (len_ends t (suc n) c)
past_len t n c = AllOf-end_if (Past c) (nat_le (c + suc n) (length t)) (c + suc n) (λ h. omega arith)

past_run : (c run : ℕ) → not (nat_eq run 0) ≡ true → c < c + run
past_run c run h = let some = eqb-false run 0 (not-true (nat_eq run 0) h) in omega arith

past_span : (t s : List ℕ) (c : ℕ) → AllOf (Past c) (span_ends t s c)
past_span t s c =
    AllOf-end_if (Past c) (not (nat_eq (length (take_while (has s) (drop c t))) 0)) (c + length (take_while (has s) (drop c t)))
    (λ h. past_run c (length (take_while (has s) (drop c t))) h)

past_bal : (t : List ℕ) (c : ℕ) → AllOf (Past c) (bal_ends t c)
past_bal t c =
    AllOf-filter (Past c) (λ e. balanced 0 (part t c e)) (range_with_len (c + 1) (length t - c)) (range_all (Past c) (length t - c) (c + 1) (λ e low high. omega arith))

past_zero : (t : List ℕ) (bodies : List Tree) (i c : ℕ) → AllEnds (Past c) (definition_results t bodies 0 i c)
past_zero t bodies i c = rw (named_zero t bodies i c) tt

pub takes_past : (t : List ℕ) (bodies : List Tree) (p : Tree) → Takes bodies p → (k c : ℕ) → c ≤ length t → AllEnds (λ e. c < e) (results t bodies k p c)
unfolding results_of
takes_past t bodies p (guard.literal {x = x} {s = s}) k c i = AllEnds-ends (Past c) (literal_ends t (x ∷ s) c) (past_literal t x s c)
takes_past t bodies p (guard.len {n = n}) k c i = AllEnds-ends (Past c) (len_ends t (suc n) c) (past_len t n c)
takes_past t bodies p (guard.any_of {s = s}) k c i = AllEnds-ends (Past c) (any_ends t s c) (one_all (Past c) (has s) (drop c t) c (λ h. omega arith))
takes_past t bodies p (guard.none_of {s = s}) k c i =
    AllEnds-ends (Past c) (notany_ends t s c) (one_all (Past c) (λ x. not (has s x)) (drop c t) c (λ h. omega arith))
takes_past t bodies p (guard.span {s = s}) k c i = AllEnds-ends (Past c) (span_ends t s c) (past_span t s c)
takes_past t bodies p guard.bal k c i = AllEnds-ends (Past c) (bal_ends t c) (past_bal t c)
takes_past t bodies p guard.fail k c i = tt
takes_past t bodies p guard.abort k c i = tt
takes_past t bodies p' (guard.seq_first {p = p} {q = q} d) k c i =
    AllEnds-go_on (λ e. Within t c e × (c < e)) (Past c) (results t bodies k q)
    (λ e w. AllEnds-map (Within t e) (Past c) (λ x v. let far : c < e = w.1 in let on : e ≤ x = v.0 in omega arith) (results t bodies k q e) (within t bodies k q e w.0.1))
    (results t bodies k p c)
    (AllEnds-both (Within t c) (Past c) (results t bodies k p c) (within t bodies k p c i) (takes_past t bodies p d k c i))
takes_past t bodies p' (guard.seq_second {p = p} {q = q} d) k c i =
    AllEnds-go_on (Within t c) (Past c) (results t bodies k q)
    (λ e w. AllEnds-map (Past e) (Past c) (λ x v. let on : c ≤ e = w.0 in omega arith) (results t bodies k q e) (takes_past t bodies q d k e w.1))
    (results t bodies k p c) (within t bodies k p c i)
takes_past t bodies p' (guard.alt {p = p} {q = q} d g) k c i =
    AllEnds-cut (Past c) (results t bodies k p c ++ results t bodies k q c)
    (AllEnds-append (Past c) (results t bodies k p c) (results t bodies k q c) (takes_past t bodies p d k c i) (takes_past t bodies q g k c i))
takes_past t bodies p' (guard.cond {p = p} {v = v} d) k c i = AllEnds-assign_later (Past c) v c (results t bodies k p c) (takes_past t bodies p d k c i)
takes_past t bodies p' (guard.imm {p = p} {v = v} d) k c i = AllEnds-assign_now (Past c) v c (results t bodies k p c) (takes_past t bodies p d k c i)
takes_past t bodies p' (guard.ref {i = j} {body = body} is d) zero c i = past_zero t bodies j c
takes_past t bodies p' (guard.ref {i = j} {body = body} is d) (suc k) c i =
    let there : AllEnds (Past c) (results t bodies k body c) = takes_past t bodies body d k c i in rw (named_body t bodies k j c body is) there
