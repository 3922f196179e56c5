-- What patterns do, from what their parts do.
use Rattle.std.proofs.Common.{◌≡◌, ℕ, zero, suc, ◌-◌, ◌<◌, ◌≤◌, true, cond, List, [], ◌++◌, length, Some, None, slice_get, ap, sym, subst, ◌∙◌, arith}
use Rattle.std.proofs.Math.Numerals.{sub-one}
use Rattle.std.proofs.lemmas.Bool.{lt-ltb, le-ltb}
use Rattle.std.specs.List.{list_any}
use Rattle.sno_pattern.specs.Tree.{Tree, Alt}
use Rattle.sno_pattern.specs.Events.{cut}
use Rattle.sno_pattern.specs.Results.{results, results_of, definition_results, of_body, rounds}
use Rattle.sno_pattern.specs.Laws.{AllEnds, Within}
use Rattle.sno_pattern.specs.declared.events.Event.{Event}
use Rattle.sno_pattern.proofs.EachEnd.{AllEnds-map}
use Rattle.sno_pattern.proofs.Within.{within}
use Rattle.sno_eval.specs.Steps.{is_halt}
use Rattle.sno_eval.proofs.EventLaws.{cut_halted}
use Rattle.sno_eval.proofs.Going.{next_round}

-- each End of what a pattern does lies within the text
pub inside : (t : List ℕ) (bodies : List Tree) (k : ℕ) (p : Tree) (c : ℕ) (l m : List Event) → c ≤ length t → l ≡ m → m ≡ results t bodies k p c → AllEnds (Within t 0) l
inside t bodies k p c l m h same is =
    subst (AllEnds (Within t 0)) (sym (same ∙ is))
    (AllEnds-map (Within t c) (Within t 0) (λ e w. (omega arith, w.1)) (results t bodies k p c) (within t bodies k p c h))

-- both sides of an alternation
pub both_sides : (t : List ℕ) (bodies : List Tree) (k c : ℕ) (whole left right p q : Tree) (l m n : List Event) → whole ≡ Alt left right → p ≡ left → q ≡ right
    → l ≡ results t bodies k p c → m ≡ results t bodies k q c → n ≡ l ++ m → cut n ≡ results t bodies k whole c
unfolding results_of
both_sides t bodies k c whole left right p q l m n is same_left same_right does_l does_m joined =
    ap cut (joined ∙ ap (λ x. x ++ m) (does_l ∙ ap (λ x. results t bodies k x c) same_left) ∙ ap (λ x. results t bodies k left c ++ x) (does_m ∙ ap (λ x. results t bodies k x c) same_right))
    ∙ sym (ap (λ x. results t bodies k x c) is)

-- the left side alone, if it fails the whole match
pub one_side : (t : List ℕ) (bodies : List Tree) (k c : ℕ) (whole left right p : Tree) (l n : List Event) → whole ≡ Alt left right → p ≡ left
    → l ≡ results t bodies k p c → true ≡ list_any is_halt l → n ≡ l → cut n ≡ results t bodies k whole c
unfolding results_of
one_side t bodies k c whole left right p l n is same_left does_l halted same =
    ap cut same
    ∙ sym (cut_halted l (results t bodies k right c) (sym halted))
    ∙ ap (λ x. cut (x ++ results t bodies k right c)) (does_l ∙ ap (λ x. results t bodies k x c) same_left)
    ∙ sym (ap (λ x. results t bodies k x c) is)

-- the depth is used up
pub named_no_more : (t : List ℕ) (bodies : List Tree) (k i c : ℕ) (l : List Event) → l ≡ [] → k ≡ 0 → l ≡ definition_results t bodies k i c
unfolding definition_results
named_no_more t bodies k i c l none h = none ∙ sym (ap (λ n. definition_results t bodies n i c) h)

-- no definition has the number
pub named_missing : (t : List ℕ) (bodies : List Tree) (k i c : ℕ) (l : List Event) → l ≡ [] → None ≡ slice_get bodies i → l ≡ definition_results t bodies k i c
unfolding definition_results
named_missing t bodies zero i c l none h = none
named_missing t bodies (suc k) i c l none h = none ∙ ap (λ b. of_body (results_of t (definition_results t bodies k)) b c) h

-- the definition's body does it
pub named_does : (t : List ℕ) (bodies : List Tree) (k i c : ℕ) (p : Tree) (l : List Event) → 0 < k → Some p ≡ slice_get bodies i → l ≡ results t bodies (k - 1) p c → l ≡ definition_results t bodies k i c
unfolding definition_results
named_does t bodies zero i c p l h is does = absurd (omega arith)
named_does t bodies (suc k) i c p l h is does =
    does ∙ ap (λ n. results t bodies n p c) (sub-one (suc k)) ∙ ap (λ b. of_body (results_of t (definition_results t bodies k)) b c) is

-- a round that took a character is followed by more
pub round_taken : (once : ℕ → List Event) (n c e : ℕ) (l m : List Event) → c < e → l ≡ m → m ≡ rounds once (n - 1) e → l ≡ next_round once n c e
round_taken once n c e l m h same is = same ∙ is ∙ sym (ap (λ b. cond b (rounds once (n - 1) e) []) (lt-ltb c e h))

-- one that took no character is dropped
pub round_dropped : (once : ℕ → List Event) (n c e : ℕ) → e ≤ c → next_round once n c e ≡ []
round_dropped once n c e h = ap (λ b. cond b (rounds once (n - 1) e) []) (le-ltb c e h)
