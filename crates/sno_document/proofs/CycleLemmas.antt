-- Definitions that refer only to definitions, and the first of a cycle of them.
use Rattle.std.proofs.Common.{◌≡◌, ℕ, ◌+◌, ◌<◌, Bool, true, false, not, ◌&&◌, cond, List, [], ◌∷◌, length, Option, Some, None, slice_get, refl, sym, subst, ◌∙◌, IsTrue}
use Rattle.std.specs.List.{list_all, position_from}
use Rattle.std.proofs.lemmas.Option.{slice_get_within}
use Rattle.sno_pattern.specs.Tree.{Tree, refs_below}
use Rattle.sno_pattern.specs.Admission.{IsFirstCycle, IsWay, first_bad_ref}

none_later : (v : Bool) (i : ℕ) (later : Option ℕ) (rest : Bool) → (rest ≡ true → later ≡ None) → (v && rest) ≡ true → cond (not v) (Some i) later ≡ None
none_later true i later rest more h = more h
none_later false i later rest more h = cc

none_bad : (n i : ℕ) (bodies : List Tree) → list_all (refs_below n) bodies ≡ true → position_from (λ p. not (refs_below n p)) i bodies ≡ None
none_bad n i [] h = refl
none_bad n i (p ∷ bodies) h = none_later (refs_below n p) i _ _ (none_bad n (i + 1) bodies) h

-- no definition refers to a place after the last
pub no_bad_ref : (n place : ℕ) (bodies : List Tree) → n ≡ length bodies → IsTrue (list_all (refs_below n) bodies) → first_bad_ref bodies ≡ Some place → ⊥
no_bad_ref n place bodies as_many covered bad =
    let none : first_bad_ref bodies ≡ None = none_bad (length bodies) 0 bodies (subst (λ k. IsTrue (list_all (refs_below k) bodies)) as_many covered) in
    cc

there : (bodies : List Tree) (i : ℕ) (body : Tree) → slice_get bodies i ≡ Some body → i < length bodies
there bodies i body h = slice_get_within bodies i body h

way_begins : (bodies : List Tree) (i : ℕ) (rest : List ℕ) (j : ℕ) → IsWay bodies i rest j → i < length bodies
way_begins bodies i [] j (body, h, u) = there bodies i body h
way_begins bodies i (x ∷ rest) j h = there bodies i h.0.0 h.0.1

-- the first of a cycle is a definition, and the others follow it
pub cycle_parts : (bodies : List Tree) (cycle : List ℕ) (first : ℕ) → IsFirstCycle bodies cycle → Some first ≡ slice_get cycle 0
    → (others : List ℕ) × IsFirstCycle bodies (first ∷ others) × (first < length bodies)
cycle_parts bodies [] first h is = absurd h.1
cycle_parts bodies (i ∷ rest) first h is =
    let same : i ≡ first = cc in (rest, subst (λ k. IsFirstCycle bodies (k ∷ rest)) same h, subst (λ k. k < length bodies) (sym h.1.0 ∙ same) (way_begins bodies h.0 rest h.0 h.1.1))
