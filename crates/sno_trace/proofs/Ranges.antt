-- The trials of a leaf, one end after the other.
use Rattle.std.proofs.Common.{◌≡◌, ℕ, zero, suc, ◌+◌, ◌-◌, ◌<◌, ◌≤◌, Bool, true, List, [], ◌∷◌, ◌++◌, Option, Some, None, option_to_list, IsTrue, refl, ap, sym, ◌∙◌, arith, append_assoc}
use Rattle.std.specs.List.{range_with_len}
use Rattle.sno_pattern.specs.Tree as tree
use Rattle.sno_pattern.specs.Tree.{Tree}
use Rattle.sno_primitives.specs.Leaves.{leaf_ends}
use Rattle.sno_trace.specs.declared.events.Noted.{Noted}
use Rattle.sno_trace.specs.declared.events.Noted.TheVariants.{End, Stop}
use Rattle.sno_trace.specs.Noted.{tried, noted_tries, noted_ends, noted_of, upto}
use Rattle.sno_trace.specs.Steps.{is_leaf}
use Rattle.sno_trace.proofs.NotedLaws.{upto_one, upto_none}

-- the cursors from i to n
abbrev pub up_to : ℕ → ℕ → List ℕ
up_to i n = range_with_len i (suc n - i)

-- the first of them, and the others
pub up_to_more : (i n : ℕ) → i ≤ n → up_to i n ≡ i ∷ up_to (i + 1) n
up_to_more i n h =
    let e : suc n - i ≡ suc (suc n - (i + 1)) = omega arith in
    ap (range_with_len i) e

-- one more end
pub one_more : (n r k : ℕ) (again : Bool) (p : Tree) (c e : ℕ) (all new total : List Noted) (ends rest : List ℕ) → ends ≡ e ∷ rest → 0 < n → r ≡ n - 1
    → new ≡ all ++ tried k p c (Some e) again ∷ End e [] ∷ [] → all ++ upto n (noted_tries k again p c ends) ≡ total → new ++ upto r (noted_tries k true p c rest) ≡ total
one_more n r k again p c e all new total ends rest is some less added so_far =
    ap (λ m. m ++ upto r (noted_tries k true p c rest)) added
    ∙ append_assoc all (tried k p c (Some e) again ∷ End e [] ∷ []) (upto r (noted_tries k true p c rest))
    ∙ ap (λ j. all ++ tried k p c (Some e) again ∷ End e [] ∷ upto j (noted_tries k true p c rest)) less
    ∙ sym (ap (λ m. all ++ m) (upto_one n (record { leaf = p; cursor = c; end = Some e; again = again; below = k }) (End e [] ∷ noted_tries k true p c rest) some))
    ∙ sym (ap (λ m. all ++ upto n (noted_tries k again p c m)) is)
    ∙ so_far

-- no trial is left for it
pub no_more : (n k : ℕ) (again : Bool) (p : Tree) (c e : ℕ) (all new total : List Noted) (ends rest : List ℕ) → ends ≡ e ∷ rest → n ≡ 0
    → new ≡ all ++ Stop ∷ [] → all ++ upto n (noted_tries k again p c ends) ≡ total → new ≡ total
no_more n k again p c e all new total ends rest is none added so_far =
    added
    ∙ sym (ap (λ m. all ++ m) (upto_none n (record { leaf = p; cursor = c; end = Some e; again = again; below = k }) (End e [] ∷ noted_tries k true p c rest) none))
    ∙ sym (ap (λ m. all ++ upto n (noted_tries k again p c m)) is)
    ∙ so_far

-- a list that has trials at once
pub no_trial_left : (n k : ℕ) (p : Tree) (c : ℕ) (es : List ℕ) → n ≡ 0 → Stop ∷ [] ≡ upto n (noted_ends k p c es)
no_trial_left n k p c [] h = sym (ap (λ j. upto j (noted_ends k p c [])) h)
no_trial_left n k p c (e ∷ es) h = sym (ap (λ j. upto j (noted_ends k p c (e ∷ es))) h)

-- at most one end
pub one_end : (n k : ℕ) (p : Tree) (c : ℕ) (o : Option ℕ) → 0 < n → upto n (noted_ends k p c (option_to_list o)) ≡ noted_ends k p c (option_to_list o)
one_end zero k p c o h = absurd (omega arith)
one_end (suc n) k p c None h = refl
one_end (suc n) k p c (Some e) h = refl

-- if no trial is left, nothing is shown of a leaf
pub leaf_stopped : (t : List ℕ) (named : ℕ → ℕ → List Noted) (n k : ℕ) (p : Tree) (c : ℕ) (l : List Noted) → l ≡ Stop ∷ [] → n ≡ 0 → IsTrue (is_leaf p) → l ≡ upto n (noted_of t named k p c)
unfolding noted_of
leaf_stopped t named n k p c l is none h = is ∙ stopped p h ∙ sym (ap (λ j. upto j (noted_of t named k p c)) none)
  where
    stopped : (p : Tree) → IsTrue (is_leaf p) → Stop ∷ [] ≡ upto 0 (noted_of t named k p c)
    stopped (tree.Lit s) h = no_trial_left 0 k (tree.Lit s) c (leaf_ends t (tree.Lit s) c) refl
    stopped (tree.Len n) h = no_trial_left 0 k (tree.Len n) c (leaf_ends t (tree.Len n) c) refl
    stopped (tree.Pos n) h = no_trial_left 0 k (tree.Pos n) c (leaf_ends t (tree.Pos n) c) refl
    stopped (tree.Rpos n) h = no_trial_left 0 k (tree.Rpos n) c (leaf_ends t (tree.Rpos n) c) refl
    stopped (tree.Tab n) h = no_trial_left 0 k (tree.Tab n) c (leaf_ends t (tree.Tab n) c) refl
    stopped (tree.Rtab n) h = no_trial_left 0 k (tree.Rtab n) c (leaf_ends t (tree.Rtab n) c) refl
    stopped (tree.AnyOf s) h = no_trial_left 0 k (tree.AnyOf s) c (leaf_ends t (tree.AnyOf s) c) refl
    stopped (tree.NoneOf s) h = no_trial_left 0 k (tree.NoneOf s) c (leaf_ends t (tree.NoneOf s) c) refl
    stopped (tree.Span s) h = no_trial_left 0 k (tree.Span s) c (leaf_ends t (tree.Span s) c) refl
    stopped (tree.Break s) h = no_trial_left 0 k (tree.Break s) c (leaf_ends t (tree.Break s) c) refl
    stopped tree.Arb h = no_trial_left 0 k tree.Arb c (leaf_ends t tree.Arb c) refl
    stopped tree.Bal h = no_trial_left 0 k tree.Bal c (leaf_ends t tree.Bal c) refl
    stopped tree.Rem h = no_trial_left 0 k tree.Rem c (leaf_ends t tree.Rem c) refl
    stopped tree.Fence h = refl
    stopped tree.Abort h = refl
    stopped tree.Fail h = refl
    stopped (tree.At v) h = refl
    stopped (tree.Arbno p) h = cc
    stopped (tree.Ref i) h = cc
    stopped (tree.Seq p q) h = cc
    stopped (tree.Alt p q) h = cc
    stopped (tree.Cond p v) h = cc
    stopped (tree.Imm p v) h = cc
