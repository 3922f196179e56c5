-- Cycles of unguarded references.
use Rattle.std.proofs.Common.{◌≡◌, ℕ, ◌<◌, ◌≤◌, Bool, true, false, List, [], ◌∷◌, ◌++◌, length, reverse, get_or, set, replicate, eqb, refl, arith, ap, sym, subst, ◌∙◌}
use Rattle.std.proofs.lemmas.List.{get_or-set_other, length-map, length-replicate, reverse-append}
use Rattle.std.proofs.lemmas.Map.Keys.{IsDistinct-cons}
use Rattle.std.proofs.lemmas.Option.{slice_get_within}
use Rattle.sno_pattern.specs.Tree.{Tree, tree_of, trees}
use Rattle.sno_pattern.specs.declared.tree.Pattern.{Pattern}
use Rattle.sno_pattern.specs.Guard as guard
use Rattle.sno_pattern.specs.Guard.{Leads, Chain, Guarded}
use Rattle.sno_pattern.specs.Admission.{IsWay, IsCycle, IsFirstCycle}
use Rattle.sno_pattern.specs.Searching.{IsFreshWay, IsDeadEnd}
use Rattle.sno_pattern.proofs.Marks.{none_marked}
use Rattle.sno_pattern.proofs.Search.{not_seen_apart}

module _ (bodies : List Tree) (start n : ℕ) (after : List Bool) (dead : IsDeadEnd bodies start start (set (replicate n false) start true) after) where
  -- all that a chain reaches was seen, and isn't where the chain started
  stays : (i j : ℕ) → Chain bodies i j → i ≡ start → (j ≡ start → ⊥) × (get_or after j false ≡ true)
  stays i j (guard.one leads) same = let P : ℕ → Type 0 = λ x. Leads bodies x j in dead.done j (subst P same leads)
  stays i k (guard.more {j = j} chain leads) same =
      let there = stays i j chain same in
      dead.rest j (get_or-set_other (replicate n false) start j true false there.0 ∙ none_marked n j) there.1 k leads

  pub no_chain : Chain bodies start start → ⊥
  no_chain chain = (stays start start chain refl).0 refl

-- a way back is a cycle
pub cycle_found : (bodies : List Tree) (start n : ℕ) (way pushed cycle : List ℕ) → start < n → IsFreshWay bodies start (reverse way) start (set (replicate n false) start true)
    → pushed ≡ way ++ start ∷ [] → cycle ≡ reverse pushed → IsCycle bodies start cycle
cycle_found bodies start n way pushed cycle inside w pushed-is cycle-is =
    let turned : start ∷ reverse way ≡ cycle = sym (cycle-is ∙ ap reverse pushed-is ∙ reverse-append way (start ∷ [])) in
    let P : List ℕ → Type 0 = IsCycle bodies start in
    let low : start < length (replicate n false) = omega (arith, length-replicate n false) in
    subst P turned (refl, w.path, IsDistinct-cons eqb start (reverse way) (not_seen_apart bodies start (replicate n false) start low (reverse way) w.fresh) w.apart)

-- a chain begins at a definition
chain_inside : (bodies : List Tree) (i j : ℕ) → Chain bodies i j → i < length bodies
chain_inside bodies i j (guard.one leads) = slice_get_within bodies i leads.0 leads.1
chain_inside bodies i k (guard.more {j = j} chain leads) = chain_inside bodies i j chain

-- no definition lies on a cycle
pub none_on_cycle : (bodies : List Pattern) (n : ℕ) → length bodies ≤ n → ((j : ℕ) → j < n → Chain (trees bodies) j j → ⊥) → Guarded (trees bodies)
none_on_cycle bodies n all_of none i chain =
    let inside = chain_inside (trees bodies) i i chain in none i (omega (arith, inside, length-map bodies tree_of)) chain

-- a way is a chain
way_on : (bodies : List Tree) (i j k : ℕ) (way : List ℕ) → Chain bodies i j → IsWay bodies j way k → Chain bodies i k
way_on bodies i j k [] chain w = guard.more chain w
way_on bodies i j k (x ∷ way) chain w = way_on bodies i x k way (guard.more chain w.0) w.1

way_chain : (bodies : List Tree) (i k : ℕ) (way : List ℕ) → IsWay bodies i way k → Chain bodies i k
way_chain bodies i k [] w = guard.one w
way_chain bodies i k (x ∷ way) w = way_on bodies i x k way (guard.one w.0) w.1

cycle_chain : (bodies : List Tree) (start : ℕ) (cycle : List ℕ) → IsCycle bodies start cycle → Chain bodies start start
cycle_chain bodies start [] c = absurd c
cycle_chain bodies start (i ∷ rest) c = way_chain bodies start start rest c.1

-- so definitions with a cycle are not guarded
pub not_guarded : (bodies : List Tree) (cycle : List ℕ) → IsFirstCycle bodies cycle → Guarded bodies → ⊥
not_guarded bodies cycle c g = g c.0 (cycle_chain bodies c.0 cycle c.1)
