-- The steps on what is published keep its rule.
use Rattle.std.proofs.Common.{◌≡◌, ◌≢◌, ℕ, List, [], refl, subst, ⊎_elim}
use mathlib.Core.List.{IsPrefix}
use mathlib.Core.Option.{some}
use lib.ListN.{get_elem?}
use Rattle.left_right.specs.Register.{Admits, TurnsAt}
use Rattle.atomic_table.proofs.Lists.{at_set, at_snoc}
use Rattle.sno_book.specs.Entries.{Entry}
use Rattle.sno_published.specs.ViewRule.{Keeps, Sees}
use Rattle.sno_published.proofs.Prefixes.{prefix_self, prefix_trans}

-- a reader that has seen nothing may be added at any time
pub admits : Admits Keeps []
admits shown views kept seat view at = ⊎_elim (kept seat view) (λ (e : [] ≡ view). subst (λ (v : List Entry). IsPrefix v shown) e (shown, refl)) (at_snoc views [] view seat at)

-- a step after which at least as much is shown, and all that is shown has been seen
pub sees : (seat : ℕ) (view shown next : List Entry) → IsPrefix shown next → TurnsAt Keeps seat view shown next Sees
sees seat view shown next more views kept at = (
  next,
  (λ j v e. ⊎_elim (λ (t : (j ≡ seat) × (next ≡ v)). subst (λ (z : List Entry). IsPrefix z next) t.1 (prefix_self next))
      (λ (t : (j ≢ seat) × (get_elem? views j ≡ some v)). prefix_trans v shown next (kept j v t.1) more) (at_set views seat j next v e)),
  (kept seat view at, refl),
)
