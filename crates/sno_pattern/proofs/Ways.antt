-- Ways along unguarded references.
use Rattle.std.proofs.Common.{◌≡◌, ℕ, zero, suc, ◌+◌, ◌<◌, Bool, true, false, cond, List, [], ◌∷◌, ◌++◌, length, Some, slice_get, get_or, IsTrue, inl, inr, refl, arith, ap, sym, subst, ◌∙◌}
use Rattle.std.specs.List.{list_all, AllByRecursion}
use Rattle.std.proofs.lemmas.Bool.{and_parts, ltb-true, both_ways}
use Rattle.std.proofs.lemmas.List.{length-map, length-append, get_or_append_left, get_or-append-add}
use Rattle.sno_pattern.specs.Tree as tree
use Rattle.sno_pattern.specs.Tree.{Tree, tree_of, trees, refs_below}
use Rattle.sno_pattern.specs.declared.tree.Pattern.{Pattern}
use Rattle.sno_pattern.specs.Guard.{Takes, Unguarded}
use Rattle.sno_pattern.specs.Searching.{takes_by, unguarded_by, AreExact, AreReferences}

-- a property of each number in a list
each_weaker : (P Q : ℕ → Type 0) → ((x : ℕ) → P x → Q x) → (l : List ℕ) → AllByRecursion P l → AllByRecursion Q l
each_weaker P Q f [] h = tt
each_weaker P Q f (x ∷ l) h = (f x h.0, each_weaker P Q f l h.1)

each_joined : (P : ℕ → Type 0) (l m : List ℕ) → AllByRecursion P l → AllByRecursion P m → AllByRecursion P (l ++ m)
each_joined P [] m h g = g
each_joined P (x ∷ l) m h g = (h.0, each_joined P l m h.1 g)

each_at : (P : ℕ → Type 0) (l : List ℕ) (k : ℕ) → k < length l → AllByRecursion P l → P (get_or l k 0)
each_at P [] k inside h = absurd (omega arith)
each_at P (x ∷ l) zero inside h = h.0
each_at P (x ∷ l) (suc k) inside h = each_at P l k (omega arith) h.1

-- that a number is in the list
abbrev Among : List ℕ → ℕ → Type 0
Among l j = (k : ℕ) × (k < length l) × (get_or l k 0 ≡ j)

among_left : (l m : List ℕ) (j : ℕ) → Among l j → Among (l ++ m) j
among_left l m j h = (h.0, omega (arith, h.1, length-append l m), get_or_append_left l m 0 h.0 h.1 ∙ h.2)

among_right : (l m : List ℕ) (j : ℕ) → Among m j → Among (l ++ m) j
among_right l m j h = (length l + h.0, omega (arith, h.1, length-append l m), get_or-append-add l m h.0 0 ∙ h.2)

module _ (bodies : List Tree) (marks : List Bool) (exact : AreExact bodies marks) where
  -- what comes after a part that doesn't take
  behind : (p q : Tree) (b : Bool) → takes_by marks p ≡ b → AllByRecursion (Unguarded bodies q) (unguarded_by marks q)
      → AllByRecursion (λ j. (Takes bodies p → ⊥) × Unguarded bodies q j) (cond b [] (unguarded_by marks q))
  behind p q true is h = tt
  behind p q false is h =
      each_weaker (Unguarded bodies q) (λ j. (Takes bodies p → ⊥) × Unguarded bodies q j)
      (λ j u. ((λ takes. let yes : takes_by marks p ≡ true = (exact p).1 takes in absurd (both_ways (takes_by marks p) is yes)), u)) (unguarded_by marks q) h

  -- each reference that the code finds is unguarded
  found_unguarded : (p : Tree) → AllByRecursion (Unguarded bodies p) (unguarded_by marks p)
  found_unguarded (tree.Lit s) = tt
  found_unguarded (tree.Len n) = tt
  found_unguarded (tree.Pos n) = tt
  found_unguarded (tree.Rpos n) = tt
  found_unguarded (tree.Tab n) = tt
  found_unguarded (tree.Rtab n) = tt
  found_unguarded (tree.AnyOf s) = tt
  found_unguarded (tree.NoneOf s) = tt
  found_unguarded (tree.Span s) = tt
  found_unguarded (tree.Break s) = tt
  found_unguarded tree.Arb = tt
  found_unguarded (tree.Arbno p) = found_unguarded p
  found_unguarded tree.Bal = tt
  found_unguarded tree.Rem = tt
  found_unguarded tree.Fence = tt
  found_unguarded tree.Abort = tt
  found_unguarded tree.Fail = tt
  found_unguarded (tree.At v) = tt
  found_unguarded (tree.Ref i) = (refl, tt)
  found_unguarded (tree.Seq p q) =
      each_joined (Unguarded bodies (tree.Seq p q)) (unguarded_by marks p) (cond (takes_by marks p) [] (unguarded_by marks q))
      (each_weaker (Unguarded bodies p) (Unguarded bodies (tree.Seq p q)) (λ j u. inl u) (unguarded_by marks p) (found_unguarded p))
      (each_weaker (λ j. (Takes bodies p → ⊥) × Unguarded bodies q j) (Unguarded bodies (tree.Seq p q)) (λ j u. inr u)
      (cond (takes_by marks p) [] (unguarded_by marks q)) (behind p q (takes_by marks p) refl (found_unguarded q)))
  found_unguarded (tree.Alt p q) =
      each_joined (Unguarded bodies (tree.Alt p q)) (unguarded_by marks p) (unguarded_by marks q)
      (each_weaker (Unguarded bodies p) (Unguarded bodies (tree.Alt p q)) (λ j u. inl u) (unguarded_by marks p) (found_unguarded p))
      (each_weaker (Unguarded bodies q) (Unguarded bodies (tree.Alt p q)) (λ j u. inr u) (unguarded_by marks q) (found_unguarded q))
  found_unguarded (tree.Cond p v) = found_unguarded p
  found_unguarded (tree.Imm p v) = found_unguarded p

  free_among : (p q : Tree) (j : ℕ) (b : Bool) → takes_by marks p ≡ b → (Takes bodies p → ⊥) → Among (unguarded_by marks q) j
      → Among (cond b [] (unguarded_by marks q)) j
  free_among p q j true is free h = absurd (free ((exact p).0 is))
  free_among p q j false is free h = h

  -- and each unguarded reference is found
  all_found : (p : Tree) (j : ℕ) → Unguarded bodies p j → Among (unguarded_by marks p) j
  all_found (tree.Lit s) j u = absurd u
  all_found (tree.Len n) j u = absurd u
  all_found (tree.Pos n) j u = absurd u
  all_found (tree.Rpos n) j u = absurd u
  all_found (tree.Tab n) j u = absurd u
  all_found (tree.Rtab n) j u = absurd u
  all_found (tree.AnyOf s) j u = absurd u
  all_found (tree.NoneOf s) j u = absurd u
  all_found (tree.Span s) j u = absurd u
  all_found (tree.Break s) j u = absurd u
  all_found tree.Arb j u = absurd u
  all_found (tree.Arbno p) j u = all_found p j u
  all_found tree.Bal j u = absurd u
  all_found tree.Rem j u = absurd u
  all_found tree.Fence j u = absurd u
  all_found tree.Abort j u = absurd u
  all_found tree.Fail j u = absurd u
  all_found (tree.At v) j u = absurd u
  all_found (tree.Ref i) j u = (0, omega arith, sym u)
  all_found (tree.Seq p q) j (inl u) = among_left (unguarded_by marks p) (cond (takes_by marks p) [] (unguarded_by marks q)) j (all_found p j u)
  all_found (tree.Seq p q) j (inr u) =
      among_right (unguarded_by marks p) (cond (takes_by marks p) [] (unguarded_by marks q)) j
      (free_among p q j (takes_by marks p) refl u.0 (all_found q j u.1))
  all_found (tree.Alt p q) j (inl u) = among_left (unguarded_by marks p) (unguarded_by marks q) j (all_found p j u)
  all_found (tree.Alt p q) j (inr u) = among_right (unguarded_by marks p) (unguarded_by marks q) j (all_found q j u)
  all_found (tree.Cond p v) j u = all_found p j u
  all_found (tree.Imm p v) j u = all_found p j u

-- an unguarded reference is a reference
unguarded_inside : (bodies : List Tree) (n : ℕ) (p : Tree) (j : ℕ) → refs_below n p ≡ true → Unguarded bodies p j → j < n
unguarded_inside bodies n (tree.Lit s) j h u = absurd u
unguarded_inside bodies n (tree.Len m) j h u = absurd u
unguarded_inside bodies n (tree.Pos m) j h u = absurd u
unguarded_inside bodies n (tree.Rpos m) j h u = absurd u
unguarded_inside bodies n (tree.Tab m) j h u = absurd u
unguarded_inside bodies n (tree.Rtab m) j h u = absurd u
unguarded_inside bodies n (tree.AnyOf s) j h u = absurd u
unguarded_inside bodies n (tree.NoneOf s) j h u = absurd u
unguarded_inside bodies n (tree.Span s) j h u = absurd u
unguarded_inside bodies n (tree.Break s) j h u = absurd u
unguarded_inside bodies n tree.Arb j h u = absurd u
unguarded_inside bodies n (tree.Arbno p) j h u = unguarded_inside bodies n p j h u
unguarded_inside bodies n tree.Bal j h u = absurd u
unguarded_inside bodies n tree.Rem j h u = absurd u
unguarded_inside bodies n tree.Fence j h u = absurd u
unguarded_inside bodies n tree.Abort j h u = absurd u
unguarded_inside bodies n tree.Fail j h u = absurd u
unguarded_inside bodies n (tree.At v) j h u = absurd u
unguarded_inside bodies n (tree.Ref i) j h u = let low : i < n = ltb-true i n h in omega arith
unguarded_inside bodies n (tree.Seq p q) j h (inl u) = unguarded_inside bodies n p j (and_parts (refs_below n p) (refs_below n q) h).0 u
unguarded_inside bodies n (tree.Seq p q) j h (inr u) = unguarded_inside bodies n q j (and_parts (refs_below n p) (refs_below n q) h).1 u.1
unguarded_inside bodies n (tree.Alt p q) j h (inl u) = unguarded_inside bodies n p j (and_parts (refs_below n p) (refs_below n q) h).0 u
unguarded_inside bodies n (tree.Alt p q) j h (inr u) = unguarded_inside bodies n q j (and_parts (refs_below n p) (refs_below n q) h).1 u
unguarded_inside bodies n (tree.Cond p v) j h u = unguarded_inside bodies n p j h u
unguarded_inside bodies n (tree.Imm p v) j h u = unguarded_inside bodies n p j h u

-- a body whose references are all to definitions
closed_body : (n : ℕ) (bodies : List Tree) (i : ℕ) (body : Tree) → list_all (refs_below n) bodies ≡ true → slice_get bodies i ≡ Some body → refs_below n body ≡ true
closed_body n [] i body h is = cc
closed_body n (p ∷ bodies) zero body h is = let same : p ≡ body = cc in rw (← same) (and_parts (refs_below n p) (list_all (refs_below n) bodies) h).0
closed_body n (p ∷ bodies) (suc i) body h is = closed_body n bodies i body (and_parts (refs_below n p) (list_all (refs_below n) bodies) h).1 is

-- the pattern at a place, as a tree
pub tree_at : (bodies : List Pattern) (i : ℕ) (body : Pattern) → i < length bodies → body ≡ get_or bodies i body → slice_get (trees bodies) i ≡ Some (tree_of body)
tree_at [] i body inside is = absurd (omega arith)
tree_at (p ∷ bodies) zero body inside is = ap (λ b. Some (tree_of b)) (sym is)
tree_at (p ∷ bodies) (suc i) body inside is = tree_at bodies i body (omega arith) is

references_of : (bodies : List Tree) (marks : List Bool) → AreExact bodies marks → list_all (refs_below (length bodies)) bodies ≡ true
    → (from : ℕ) (body : Tree) → slice_get bodies from ≡ Some body → AreReferences bodies from (unguarded_by marks body)
references_of bodies marks exact closed from body is =
    let each : (k : ℕ) → k < length (unguarded_by marks body) → Unguarded bodies body (get_or (unguarded_by marks body) k 0) =
    λ k h. each_at (Unguarded bodies body) (unguarded_by marks body) k h (found_unguarded bodies marks exact body) in
    record {
      each = λ k h. (body, is, each k h);
      inside = λ k h. unguarded_inside bodies (length bodies) body _ (closed_body (length bodies) bodies from body closed is) (each k h);
      all = λ j leads. let same : leads.0 ≡ body = cc in
          let P : Tree → Type 0 = λ p. Unguarded bodies p j in all_found bodies marks exact body j (subst P same leads.2);
    }

pub references_found : (bodies : List Pattern) (marks : List Bool) → AreExact (trees bodies) marks → IsTrue (list_all (refs_below (length bodies)) (trees bodies))
    → (from : ℕ) (body : Pattern) → from < length bodies → body ≡ get_or bodies from body
    → (found : List ℕ) → found ≡ unguarded_by marks (tree_of body) → AreReferences (trees bodies) from found
references_found bodies marks exact closed from body inside is found found-is =
    let P : List ℕ → Type 0 = AreReferences (trees bodies) from in
    let Q : ℕ → Type 0 = λ n. list_all (refs_below n) (trees bodies) ≡ true in
    let closed' : list_all (refs_below (length (trees bodies))) (trees bodies) ≡ true = subst Q (sym (length-map bodies tree_of)) closed in
    subst P (sym found-is) (references_of (trees bodies) marks exact closed' from (tree_of body) (tree_at bodies from body inside is))
