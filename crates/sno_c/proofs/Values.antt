-- The machine values of a `Kept`, which is a struct of one pointer. Assumes `Logic`.
use Rattle.std.proofs.Common.{◌≡◌, List, [], ◌∷◌, ◌++◌, refl, subst}
use seplogic.Ra.Ura.{Ura}
use mir.Val.{Val, vstruct, vcons, vnil, of_list}
use types.Logic.{Logic}
use types.Kit.{Item, Goal, Seq, Step, step, ‵, ◌$◌, drop, fsplit, fjoin, fpick, fpack, feq_i, feq_l}
use denote.RattleType.{RattleType, Valss}
use denote.Builtin.{RawPtr}
use denote.RawPtr.{Ptr, ptr_val}
use denote.Steps.{nothing}
use denote.Struct.Struct.{within}
use denote.Struct.Owning.{shape}
use Rattle.std.specs.Prelude.{Option, None, Some, is_some, true}
use Rattle.sno_compiled.proofs.Values.{one}
use Rattle.sno_c.specs.declared.held.Held.{Held}
use Rattle.sno_c.specs.Kept.{kept_at}
use Rattle.sno_c.specs.contracts.kept.Kept as kept

-- what is some value has a value
pub value_of : (v : Option Held) → is_some v ≡ true → (x : Held) × (v ≡ Some x)
value_of None e = absurd cc
value_of (Some x) e = (x, refl)

module _ {M : Type 1} {𝓤 : Ura M} {𝓛 : Logic 𝓤} {K : Type 0} {Γ : List (Item 𝓤)} {G : Goal 𝓤 𝓛.H} where
  pub kept_in : K → (p : Ptr) (x : Option Held)
      → Step K 𝓛 (‵ (kept.the_row.own_val (record { at = p; value = x }) (one (ptr_val p) ∷ [])) ∷ Γ) G (‵ (kept_at p x) ∷ Γ) G
  kept_in t p x = step (λ s. let v : Val = one (ptr_val p) in
      nothing t $ feq_i t (List Val) (ptr_val p ∷ []) (ptr_val p ∷ []) refl $ fjoin t $ feq_i t (List Val) (v ∷ []) (v ∷ []) refl $ fjoin t $
      fpack t (Valss (RawPtr ∷ [])) (within (shape kept.the_type) (p, tt) (v ∷ [])) (ptr_val p ∷ [], tt) $ fjoin t $ s)

  pub kept_out : K → (d : kept.the_row.Denot) (vs : List Val)
      → (vs ≡ one (ptr_val d.at) ∷ [] → Seq K 𝓛 (‵ (kept_at d.at d.value) ∷ Γ) G) → Seq K 𝓛 (‵ (kept.the_row.own_val d vs) ∷ Γ) G
  kept_out t d vs k =
      fsplit t $ fpick t (λ vss. fsplit t $ feq_l t (λ e. fsplit t $ feq_l t (λ f. drop t $
      k (subst (λ (ps : List Val). vs ≡ vstruct (of_list (ps ++ [])) ∷ []) f e))))
