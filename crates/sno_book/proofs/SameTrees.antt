-- `same_tree` holds exactly for equal trees.
use Rattle.std.proofs.Common.{◌≡◌, ℕ, true, nat_eq, List, refl, ap, subst}
use Rattle.std.specs.Bool.{Decides}
use Rattle.std.proofs.lemmas.Bool.{eqb-true, eq-eqb, and_from, and_parts}
use Rattle.std.proofs.lemmas.Slice.Eq.{bytes_eq-Decides}
use Rattle.sno_pattern.specs.Identifiers.{same}
use Rattle.sno_pattern.specs.Tree.{Tree, Lit, Len, Pos, Rpos, Tab, Rtab, AnyOf, NoneOf, Span, Break, Arb, Arbno, Bal, Rem, Fence, Abort, Fail, At, Ref, Seq, Alt, Cond, Imm}
use Rattle.sno_book.specs.SamePatterns.{same_leaf, same_tree}
use Rattle.sno_book.proofs.Places.{same_is}

leaf_is : (t u : Tree) → same_leaf t u ≡ true → t ≡ u
leaf_is (Lit s) (Lit t) h = ap Lit (same_is s t h)
leaf_is (Len m) (Len n) h = ap Len (eqb-true m n h)
leaf_is (Pos m) (Pos n) h = ap Pos (eqb-true m n h)
leaf_is (Rpos m) (Rpos n) h = ap Rpos (eqb-true m n h)
leaf_is (Tab m) (Tab n) h = ap Tab (eqb-true m n h)
leaf_is (Rtab m) (Rtab n) h = ap Rtab (eqb-true m n h)
leaf_is (AnyOf s) (AnyOf t) h = ap AnyOf (same_is s t h)
leaf_is (NoneOf s) (NoneOf t) h = ap NoneOf (same_is s t h)
leaf_is (Span s) (Span t) h = ap Span (same_is s t h)
leaf_is (Break s) (Break t) h = ap Break (same_is s t h)
leaf_is Arb Arb h = refl
leaf_is Bal Bal h = refl
leaf_is Rem Rem h = refl
leaf_is Fence Fence h = refl
leaf_is Abort Abort h = refl
leaf_is Fail Fail h = refl
leaf_is (At v) (At w) h = ap At (same_is v w h)
leaf_is (Ref i) (Ref j) h = ap Ref (eqb-true i j h)
leaf_is _ _ h = cc

tree_is : (t u : Tree) → same_tree t u ≡ true → t ≡ u
tree_is (Arbno p) (Arbno q) h = ap Arbno (tree_is p q h)
tree_is (Seq p r) (Seq q s) h =
    let hs = and_parts (same_tree p q) (same_tree r s) h in let left = tree_is p q hs.0 in let right = tree_is r s hs.1 in (λ i. Seq (left i) (right i))
tree_is (Alt p r) (Alt q s) h =
    let hs = and_parts (same_tree p q) (same_tree r s) h in let left = tree_is p q hs.0 in let right = tree_is r s hs.1 in (λ i. Alt (left i) (right i))
tree_is (Cond p v) (Cond q w) h =
    let hs = and_parts (same v w) (same_tree p q) h in let called = same_is v w hs.0 in let below = tree_is p q hs.1 in (λ i. Cond (below i) (called i))
tree_is (Imm p v) (Imm q w) h =
    let hs = and_parts (same v w) (same_tree p q) h in let called = same_is v w hs.0 in let below = tree_is p q hs.1 in (λ i. Imm (below i) (called i))
tree_is p q h = leaf_is p q h

self_text : (s : List ℕ) → same s s ≡ true
self_text s = (bytes_eq-Decides s s).1 refl

self_number : (n : ℕ) → nat_eq n n ≡ true
self_number n = eq-eqb n n refl

tree_self : (t : Tree) → same_tree t t ≡ true
tree_self (Lit s) = self_text s
tree_self (Len n) = self_number n
tree_self (Pos n) = self_number n
tree_self (Rpos n) = self_number n
tree_self (Tab n) = self_number n
tree_self (Rtab n) = self_number n
tree_self (AnyOf s) = self_text s
tree_self (NoneOf s) = self_text s
tree_self (Span s) = self_text s
tree_self (Break s) = self_text s
tree_self Arb = refl
tree_self (Arbno p) = tree_self p
tree_self Bal = refl
tree_self Rem = refl
tree_self Fence = refl
tree_self Abort = refl
tree_self Fail = refl
tree_self (At v) = self_text v
tree_self (Ref i) = self_number i
tree_self (Seq p q) = and_from (same_tree p p) (same_tree q q) (tree_self p) (tree_self q)
tree_self (Alt p q) = and_from (same_tree p p) (same_tree q q) (tree_self p) (tree_self q)
tree_self (Cond p v) = and_from (same v v) (same_tree p p) (self_text v) (tree_self p)
tree_self (Imm p v) = and_from (same v v) (same_tree p p) (self_text v) (tree_self p)

-- `same_tree` decides whether trees are equal
pub tree_decides : (t u : Tree) → Decides (same_tree t u) (t ≡ u)
tree_decides t u = (tree_is t u, λ (e : t ≡ u). subst (λ (v : Tree). same_tree t v ≡ true) e (tree_self t))
