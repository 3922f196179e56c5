-- The machine values of a `Loose`, a struct of one pointer, and of a `Tied`, a struct of two. Assumes `Logic`.
use Rattle.std.proofs.Common.{◌≡◌, List, [], ◌∷◌, ◌++◌, refl, subst}
use seplogic.Ra.Ura.{Ura}
use lib.Dec.{T as Holds}
use mir.Syntax.{Ty}
use mir.Val.{Val, WT, has_ty, vstruct, vcons, vnil, of_list}
use types.Logic.{Logic}
use types.Match.{live}
use types.Kit.{Item, Goal, Seq, Step, step, ‵, ◌$◌, drop, move, fsplit, fjoin, fpick, fpack, feq_i, feq_l}
use denote.RattleType.{RattleType, Valss}
use denote.Builtin.{RawPtr}
use denote.Laws.{Typed}
use denote.RawPtr.{Ptr, ptr_val}
use denote.Steps.{nothing}
use denote.Struct.Struct.{within}
use denote.Struct.Owning.{shape}
use Rattle.std.specs.Prelude.{Ok, Err}
use Rattle.std.specs.Box.Ownership.{box_owns}
use Rattle.std.specs.contracts.result.Result as result
use Rattle.sno_compiled.specs.Blocks.{chunk}
use Rattle.sno_statement.specs.Statement.{Statement}
use Rattle.sno_compiled.specs.Owned.{tied_at}
use Rattle.sno_compiled.specs.contracts.tied.Tied as tied
use Rattle.sno_compiled.specs.contracts.loose.Loose as loose

-- a struct of one field, and of two
abbrev pub one : Val → Val
one v = vstruct (vcons v vnil)

abbrev pub two : Val → Val → Val
two u v = vstruct (vcons u (vcons v vnil))

module _ {M : Type 1} {𝓤 : Ura M} {𝓛 : Logic 𝓤} {K : Type 0} {Γ : List (Item 𝓤)} {G : Goal 𝓤 𝓛.H} where
  pub tied_in : K → (s r : Ptr) (x : Statement)
      → Step K 𝓛 (‵ (tied.the_row.own_val (record { statement = s; ready = r; value = x }) (two (ptr_val s) (ptr_val r) ∷ [])) ∷ Γ) G (‵ (tied_at s r x) ∷ Γ) G
  tied_in t s r x = step (λ k. let v : Val = two (ptr_val s) (ptr_val r) in
      nothing t $ feq_i t (List Val) (ptr_val r ∷ []) (ptr_val r ∷ []) refl $ fjoin t $ feq_i t (List Val) (ptr_val s ∷ []) (ptr_val s ∷ []) refl $ fjoin t $ feq_i t (List Val) (v ∷ []) (v ∷ []) refl $ fjoin t $
      fpack t (Valss (RawPtr ∷ RawPtr ∷ [])) (within (shape tied.the_type) (s, (r, tt)) (v ∷ [])) (ptr_val s ∷ [], (ptr_val r ∷ [], tt)) $ fjoin t $ k)

  pub tied_out : K → (d : tied.the_row.Denot) (vs : List Val)
      → (vs ≡ two (ptr_val d.statement) (ptr_val d.ready) ∷ [] → Seq K 𝓛 (‵ (tied_at d.statement d.ready d.value) ∷ Γ) G) → Seq K 𝓛 (‵ (tied.the_row.own_val d vs) ∷ Γ) G
  tied_out t d vs k =
      fsplit t $ fpick t (λ vss. fsplit t $ feq_l t (λ e. fsplit t $ feq_l t (λ f. fsplit t $ feq_l t (λ g. drop t $
      k (subst (λ (ps : List Val × List Val). vs ≡ vstruct (of_list (ps.0 ++ (ps.1 ++ []))) ∷ []) (λ i. (f i, g i)) e)))))

  module _ (R : RattleType) where
    pub loose_in : K → (p : Ptr) (x : R.Denot)
        → Step K 𝓛 (‵ ((loose.the_row R).own_val (record { at = p; value = x }) (one (ptr_val p) ∷ [])) ∷ Γ) G (‵ (box_owns chunk R p x) ∷ Γ) G
    loose_in t p x = step (λ s. let v : Val = one (ptr_val p) in
        nothing t $ feq_i t (List Val) (ptr_val p ∷ []) (ptr_val p ∷ []) refl $ fjoin t $ feq_i t (List Val) (v ∷ []) (v ∷ []) refl $ fjoin t $
        fpack t (Valss (RawPtr ∷ [])) (within (shape (loose.the_type R)) (p, tt) (v ∷ [])) (ptr_val p ∷ [], tt) $ fjoin t $ s)

    pub loose_out : K → (d : (loose.the_row R).Denot) (vs : List Val)
        → (vs ≡ one (ptr_val d.at) ∷ [] → Seq K 𝓛 (‵ (box_owns chunk R d.at d.value) ∷ Γ) G) → Seq K 𝓛 (‵ ((loose.the_row R).own_val d vs) ∷ Γ) G
    loose_out t d vs k =
        fsplit t $ fpick t (λ vss. fsplit t $ feq_l t (λ e. fsplit t $ feq_l t (λ f. drop t $
        k (subst (λ (ps : List Val). vs ≡ vstruct (of_list (ps ++ [])) ∷ []) f e))))

-- a `Result` is taken apart
module _ {M : Type 1} {𝓤 : Ura M} {𝓛 : Logic 𝓤} {K : Type 0} {Γ : List (Item 𝓤)} {G : Goal 𝓤 𝓛.H} (R R' : RattleType) where
  pub result_out : K → (r : (result.the_row R R').Denot) (u : Val)
      → ((x : R.Denot) → r ≡ Ok x → (ws : List Val) → u ∷ [] ≡ live 0 (of_list (ws ++ [])) ∷ [] → Seq K 𝓛 (‵ (R.own_val x ws) ∷ Γ) G)
      → ((x : R'.Denot) → r ≡ Err x → (ws : List Val) → u ∷ [] ≡ live 1 (of_list (ws ++ [])) ∷ [] → Seq K 𝓛 (‵ (R'.own_val x ws) ∷ Γ) G)
      → Seq K 𝓛 (‵ ((result.the_row R R').own_val r (u ∷ [])) ∷ Γ) G
  result_out t (Ok x) u ok err = fpick t (λ us. fsplit t $ feq_l t (λ e. fpick t (λ vss. fsplit t $ feq_l t (λ f. fsplit t $ move t (1 ∷ []) $ drop t $
      ok x refl vss.0 (subst (λ (vs : List Val). u ∷ [] ≡ live 0 (of_list vs) ∷ []) f e)))))
  result_out t (Err x) u ok err = fpick t (λ us. fsplit t $ feq_l t (λ e. fpick t (λ vss. fsplit t $ feq_l t (λ f. fsplit t $ move t (1 ∷ []) $ drop t $
      err x refl vss.0 (subst (λ (vs : List Val). u ∷ [] ≡ live 1 (of_list vs) ∷ []) f e)))))
