-- References past the last definition.
use Rattle.std.proofs.Common.{◌≡◌, ℕ, ◌+◌, Bool, true, false, not, ◌&&◌, cond, List, [], ◌∷◌, length, Option, Some, None, IsTrue, refl, ap, sym, subst, ◌∙◌}
use Rattle.std.specs.List.{list_all, position_from}
use Rattle.std.proofs.lemmas.List.{length-map}
use Rattle.sno_pattern.specs.Tree.{Tree, tree_of, trees, refs_below}
use Rattle.sno_pattern.specs.declared.tree.Pattern.{Pattern}
use Rattle.sno_pattern.specs.Admission.{first_bad_ref}

-- the same search, by patterns or by their trees
position_of_trees : (n i : ℕ) (bodies : List Pattern) → position_from (λ p. not (refs_below n (tree_of p))) i bodies ≡ position_from (λ p. not (refs_below n p)) i (trees bodies)
position_of_trees n i [] = refl
position_of_trees n i (p ∷ bodies) = ap (λ r. cond (not (refs_below n (tree_of p))) (Some i) r) (position_of_trees n (i + 1) bodies)

pub bad_ref_found : (bodies : List Pattern) (found : Option ℕ) → found ≡ position_from (λ p. not (refs_below (length bodies) (tree_of p))) 0 bodies → found ≡ first_bad_ref (trees bodies)
bad_ref_found bodies found is =
    let P : ℕ → Type 0 = λ n. found ≡ position_from (λ p. not (refs_below n p)) 0 (trees bodies) in
    subst P (sym (length-map bodies tree_of)) (is ∙ position_of_trees (length bodies) 0 bodies)

-- one body before bodies for which this is known
closed_more : (v : Bool) (i : ℕ) (rest : Bool) (found : Option ℕ) → (found ≡ None → rest ≡ true) → cond (not v) (Some i) found ≡ None → (v && rest) ≡ true
closed_more true i rest found more h = more h
closed_more false i rest found more h = cc

none_bad : (n i : ℕ) (bodies : List Tree) → position_from (λ p. not (refs_below n p)) i bodies ≡ None → list_all (refs_below n) bodies ≡ true
none_bad n i [] h = refl
none_bad n i (p ∷ bodies) h = closed_more (refs_below n p) i (list_all (refs_below n) bodies) _ (none_bad n (i + 1) bodies) h

-- if no body refers past the last definition, each reference is to a definition
pub all_closed : (bodies : List Tree) → first_bad_ref bodies ≡ None → IsTrue (list_all (refs_below (length bodies)) bodies)
all_closed bodies h = none_bad (length bodies) 0 bodies h

pub closed_patterns : (bodies : List Pattern) → first_bad_ref (trees bodies) ≡ None → IsTrue (list_all (refs_below (length bodies)) (trees bodies))
closed_patterns bodies h =
    let P : ℕ → Type 0 = λ n. IsTrue (list_all (refs_below n) (trees bodies)) in subst P (length-map bodies tree_of) (all_closed (trees bodies) h)
