-- A pattern in which names represent texts refers only to definitions.
use Rattle.std.proofs.Common.{◌≡◌, ℕ, ◌+◌, ◌-◌, ◌<◌, ◌≤◌, ◌⊎◌, inl, inr, Bool, true, false, List, length, nat_lt, Some, None, refl, ap, subst, ◌∙◌, IsTrue, arith, slice_get, if◌then◌else◌, sym}
use Rattle.std.proofs.lemmas.Bool.{and_from, and_parts, ltb-false, ltb-true}
use Rattle.std.proofs.lemmas.Option.{slice_get_cases}
use Rattle.std.proofs.lemmas.List.{length-append}
use Rattle.sno_pattern.specs.Tree.{Tree, Lit, Ref, Arbno, Seq, Alt, Cond, Imm, refs_below}
use Rattle.sno_pattern.specs.Tree as tree
use Rattle.sno_document.specs.Bound.{IsBound, bound_tree, literal_or_ref}

found_covered : {X : List ℕ → Type 0} (n i : ℕ) (texts : List (List ℕ)) → i < n + length texts → n ≤ i
    → ((x : List ℕ) × (i - n < length texts) × (slice_get texts (i - n) ≡ Some x) × X x) ⊎ ((length texts ≤ i - n) × (slice_get texts (i - n) ≡ None))
    → refs_below n (literal_or_ref i (slice_get texts (i - n))) ≡ true
found_covered n i texts h g (inl (x, within, there, more)) = rw there refl
found_covered n i texts h g (inr (past, none)) = absurd (omega arith)

leaf_covered : (n i : ℕ) (texts : List (List ℕ)) (is_defined : Bool) → nat_lt i n ≡ is_defined → i < n + length texts
    → refs_below n (literal_or_ref i (if is_defined then None else slice_get texts (i - n))) ≡ true
leaf_covered n i texts true h l = h
leaf_covered n i texts false h l = found_covered n i texts l (ltb-false i n h) (slice_get_cases texts (i - n)).1

module _ (n : ℕ) (texts : List (List ℕ)) where
  tree_covered : (p : Tree) → refs_below (n + length texts) p ≡ true → refs_below n (bound_tree n texts p) ≡ true
  tree_covered (Ref i) h = leaf_covered n i texts (nat_lt i n) refl (ltb-true i (n + length texts) h)
  tree_covered (Arbno p) h = tree_covered p h
  tree_covered (Cond p v) h = tree_covered p h
  tree_covered (Imm p v) h = tree_covered p h
  tree_covered (Seq p q) h = let both = and_parts _ _ h in and_from _ _ (tree_covered p both.0) (tree_covered q both.1)
  tree_covered (Alt p q) h = let both = and_parts _ _ h in and_from _ _ (tree_covered p both.0) (tree_covered q both.1)
  tree_covered (tree.Lit s) h = refl
  tree_covered (tree.Len m) h = refl
  tree_covered (tree.Pos m) h = refl
  tree_covered (tree.Rpos m) h = refl
  tree_covered (tree.Tab m) h = refl
  tree_covered (tree.Rtab m) h = refl
  tree_covered (tree.AnyOf s) h = refl
  tree_covered (tree.NoneOf s) h = refl
  tree_covered (tree.Span s) h = refl
  tree_covered (tree.Break s) h = refl
  tree_covered tree.Arb h = refl
  tree_covered tree.Bal h = refl
  tree_covered tree.Rem h = refl
  tree_covered tree.Fence h = refl
  tree_covered tree.Abort h = refl
  tree_covered tree.Fail h = refl
  tree_covered (tree.At v) h = refl

-- each reference of a pattern that was read with all names is to a definition once texts are in the places of theirs
pub covered : (defined names texts : List (List ℕ)) (d n : ℕ) (p q : Tree) → IsBound defined names texts → IsTrue (refs_below (length names) p)
    → d ≡ length defined → length defined ≡ n → q ≡ bound_tree d texts p → IsTrue (refs_below n q)
covered defined names texts d n p q bound h same as_many is =
    let many : length names ≡ d + length texts =
    ap length bound.named ∙ length-append defined bound.bound ∙ ap (λ k. length defined + k) bound.each ∙ ap (λ k. k + length texts) (sym same) in
    let tree : IsTrue (refs_below d (bound_tree d texts p)) = tree_covered d texts p (subst (λ k. refs_below k p ≡ true) many h) in
    subst (λ k. IsTrue (refs_below k q)) (same ∙ as_many) (subst (λ t. IsTrue (refs_below d t)) (sym is) tree)
