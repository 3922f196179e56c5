-- `into_box` makes the box again.
use Rattle.std.proofs.Common.{◌≡◌, List, [], ◌∷◌, ◌++◌, refl, sym, ap, subst}
use mir.Syntax.{Args, Dict, Fn, a_type, impl, tcons, tnil, dcons, dnil}
use mir.Raw.{raw as bare}
use lib.Dec.{T as Holds}
use mir.Val.{Val, WT, has_ty, vptr}
use mir.MapTy.{inst_fn}
use base.Logic.{SProp, ent, emp, never, id⊢, fst∗}
use base.Fraction.{full_share}
use base.Fml.{ftrue, flft}
use prog.Wp.{WpFn}
use types.Logic.{sem}
use types.Kit.{‵, raw, ◌⊛◌, some, later, ◌$◌, ◌∵◌, !, qed, by, move, keep, drop, split, split3, join, fsplit3, fjoin, pick, at_ret, suffices, use0, use1, await, rewrite, feq_i}
use types.Run.{stop, fld, of_opd, no_more, and_then, first, blocks, exec, returns, enter}
use types.ByLocal.{alloc_all, pass_all, free_all, look_at, get, get_in, sets, lands_last, env}
use types.Part.{sub, whole}
use types.Tokens.{lft_new, lft_end}
use contract.BorrowLft.{◌⊑◌, ⊑_static}
use contract.Monad.{fact, fact_i}
use contract.Running.{tables}
use denote.Exit.{no, yes}
use denote.RattleType.{RattleType, owns}
use denote.Signature.{types_at, plain}
use denote.RawPtr.{Ptr, block_ptr, null_ptr, ptr_val, in_a_block}
use denote.Steps.{nothing, only, heard}
use denote.Param.{arg, param, layout, bounded}
use denote.Param.Laws.{arg_laws}
use denote.Param.NoDrop.{glues}
use denote.Triple.Clauses.{Lasts, lasts}
use denote.Triple.Spec.{triple_of}
use denote.Triple.Call.{calls_at_last}
use denote.Triple.Walked.{Stays, stay_dropped, walk_of, Goes-dropped}
use Rattle.std.proofs.alloc.Calls.{Goes-blank, handle_tells}
use denote.Triple.Table.{framed}
use Rattle.sno_compiled.specs.Blocks.{chunk}
use Rattle.std.specs.Box.Ownership.{box_owns}
use Rattle.std.specs.contracts.alloc.Global as heap
use Rattle.std.proofs.alloc.Global.TheLaws as heap_laws
use Rattle.std.specs.contracts.impls.GlobalAllocator.TheImpl.{ghosts, dict}
use Rattle.std.proofs.impls.GlobalAllocator.TheImpl.Met.{passed}
use Rattle.std.specs.contracts.boxed.Box as boxed
use Rattle.std.specs.contracts.boxed.Box.from_raw as callee
use Rattle.std.proofs.boxed.Box.from_raw.Met.{met}
use Rattle.std_alloc.proofs.BoxSteps.Form as box
use Rattle.std_alloc.proofs.BoxSteps.Steps.{box_out, box_in}
use Rattle.std.proofs.raw_atomic.Walks.{proved_at, leaves}
use Rattle.sno_compiled.proofs.Values.{one, loose_out}
use Rattle.std.proofs.alloc.Shapes.{after}
use Rattle.sno_compiled.specs.contracts.loose.Loose as loose
use Rattle.sno_compiled.specs.contracts.loose.Loose.into_box.{ended, clauses}
use Rattle.sno_compiled.specs.contracts.loose.Loose.into_box.Key.{name as #self}
use Rattle.sno_compiled.proofs.loose.Loose.into_box.Statement.{statement}
use Rattle.sno_compiled.proofs.loose.Loose.into_box.Code as code
use Rattle.sno_compiled.proofs.Destruct++none.drop.Code as none

pub into_box_spec : {M : Type 1} → statement M
unfolding none.code
into_box_spec {M} 𝓤 𝓛 𝓜 𝓡 wired T L dx glue =
    let H = 𝓛.H in let 𝓣 = tables 𝓤 H 𝓜 𝓡 𝓡.env in let R : RattleType = param 0 T in let Z : RattleType = heap.the_row in let LZ = heap_laws.the_row_laws in
    let En = ended T dx in let c = clauses T dx 𝓛 𝓜.mem 𝓡.returns in
    let args : Args = bounded (a_type ∷ []) (T, tt) (dcons dx dnil) in let fn : Fn = inst_fn args code.function in
    let A : RattleType = arg (bare (layout Z)) no Z in let LA = arg_laws (bare (layout Z)) no Z LZ refl in
    let dd : Dict = impl ("sno_compiled::Destruct++none::drop" ∷ []) (tcons (layout A) tnil) dnil in
    let E : box.Bx = record { row = T; laws = L; al = record { row = Z; laws = LZ; g = ghosts; d = dict; drops = dd } } in
    let B : RattleType = boxed.the_row R Z ghosts in let S : RattleType = loose.the_row R in
    let hs : Stays En.signature.params En.kept = (stay_dropped (plain (λ _. S)) no, (stay_dropped (plain (λ _. Z)) yes, tt)) in
    proved_at 𝓛 En hs c 𝓜 𝓡 (Goes-blank 𝓛 1 (plain (λ _. S)) no (λ κs x f. tt), (Goes-dropped 𝓛 1 (plain (λ _. Z)) yes (λ κs x f. refl), tt)) (#self args) fn (code.unfolded 𝓤 H 𝓜 𝓡 wired (T, tt) dx) (λ z are.
    let κ = z.0.0.0 in let q = z.0.1.0 in let d = z.0.3.0 in let a = z.0.3.1.0 in let Post : Val → SProp 𝓤 = (walk_of 𝓛 En hs c).post z in
    let Run : List Val → SProp 𝓤 = λ ws. WpFn 𝓤 H 𝓣.C 𝓣.Λ fn ws Post in
    qed 𝓛 (((‵ (flft κ q) ⊛ ‵ ftrue) ⊛ ‵ (owns (types_at En.signature.params z.0.0) z.0.3 z.0.4)) ∷ raw ((c z.0.0 z.0.3).requires z.1) ∷ []) ∵
    split ! $ split ! $ move ! (3 ∷ []) $ use1 𝓛 (raw (fact 𝓤 (κ ⊑ T.lives)) ⊛ raw (emp 𝓤)) (id⊢ 𝓤 _) $ split ! $ heard ! (κ ⊑ T.lives) (λ within. drop ! $ move ! (2 ∷ []) $ fsplit3 ! $
    loose_out R ! d z.0.4.0 (λ ws. in_a_block ! d.at (λ p. box_owns chunk R p d.value) (fst∗ 𝓤 (never 𝓤) (sem 𝓛 (chunk (bare (layout T)) null_ptr))) (λ b o at.
    move ! (1 ∷ []) $ handle_tells E.al ! a z.0.4.1.0 (λ h eh fits.
    let reported : z.0.4.0 ≡ one (vptr b o) ∷ [] = subst (λ (p : Ptr). z.0.4.0 ≡ one (ptr_val p) ∷ []) at ws in
    -- [the handle; the box; nothing; the token of κ; nothing]
    keep ! (0 ∷ 1 ∷ 3 ∷ []) $
    suffices ! (Run (one (vptr b o) ∷ h ∷ [])) (subst (λ (us : List Val). ent 𝓤 (Run (one (vptr b o) ∷ h ∷ [])) (Run us)) (sym (λ i. reported i ++ (eh i ++ []))) (id⊢ 𝓤 (Run (one (vptr b o) ∷ h ∷ [])))) $
    enter ! 𝓣.C 𝓣.Λ fn (one (vptr b o) ∷ h ∷ []) Post $ alloc_all ! (λ l. pass_all ! refl ((tt, (tt, tt)), (fits, tt)) $ let Ev = env fn.locals l in
    sets ! (of_opd ! (get_in ! (fld ! refl (stop !)) (sub ! 0 refl (whole !)))) refl (tt, tt) $ first ! $ blocks ! $
    lft_new ! tt (λ α. let ρ = α ∷ [] in
    let k = triple_of 𝓛 (callee.signature T A ghosts dict dd) (callee.spec T A ghosts dict dd 𝓛 𝓜.mem 𝓡.returns) in
    let y : k.Ghost = (((κ, (ρ, tt)), (q, (full_share, tt)), tt, (a, (block_ptr b o, tt)), (h ∷ [], (vptr b o ∷ [], tt))), d.value) in
    nothing ! $ move ! (1 ∷ 0 ∷ []) $ join ! $ move ! (3 ∷ 0 ∷ []) $ join ! $
    move ! (2 ∷ []) $ use0 𝓛 (raw (fact 𝓤 (ρ ⊑ A.lives))) (fact_i 𝓤 (ρ ⊑ A.lives) (emp 𝓤) (⊑_static ρ)) $ join ! $ use0 𝓛 (raw (fact 𝓤 (κ ⊑ T.lives))) (fact_i 𝓤 (κ ⊑ T.lives) (emp 𝓤) within) $ join ! $
    nothing ! $ feq_i ! (List Val) (vptr b o ∷ []) (vptr b o ∷ []) refl $ fjoin ! $ move ! (3 ∷ 0 ∷ []) $ fjoin ! $ move ! (2 ∷ 0 ∷ []) $ join ! $ join ! $ use1 𝓛 (raw (k.pre y)) (id⊢ 𝓤 _) $
    calls_at_last ! (framed 𝓤 H 𝓜 𝓣) k (met 𝓤 𝓛 𝓜 𝓡 (code.calls-std_alloc::boxed::Box::from_raw 𝓡.env wired) T A L LA ghosts dict dd
    (passed 𝓡.env (code.calls-std_heap::GlobalAllocator::allocate 𝓡.env wired) (code.calls-std_heap::GlobalAllocator::deallocate 𝓡.env wired) (code.calls-std_heap::GlobalAllocator::grow 𝓡.env wired) (code.calls-std_heap::GlobalAllocator::shrink 𝓡.env wired) M 𝓤 𝓛 𝓜 𝓡)
    (glues "sno_compiled::Destruct++none::drop" 𝓡.env (code.calls-sno_compiled::Destruct++none::drop 𝓡.env wired) A LA M 𝓤 𝓛 𝓜 𝓡))
    y (and_then ! (get ! refl) (and_then ! (get ! refl) (no_more !))) (λ u.
    use1 𝓛 (later (some (λ (r : B.Denot). ((‵ (flft κ q) ⊛ ‵ (flft ρ full_share) ⊛ ‵ ftrue) ⊛ ‵ (B.own_val r (u ∷ [])))
    ⊛ some (λ (ls : Lasts (callee.ended T A ghosts dict dd) y.0.0 y.0.3). ‵ (lasts (callee.ended T A ghosts dict dd) y.0.0 y.0.3 ls) ⊛ (raw (fact 𝓤 (r.value ≡ d.value)) ⊛ raw (fact 𝓤 (r.alloc ≡ a))))))) (id⊢ 𝓤 (k.post y u)) $
    await ! tt $ pick ! (λ r. split ! $ move ! (1 ∷ []) $ pick ! (λ ls. split3 ! $ drop ! $ heard ! (r.value ≡ d.value) (λ same. drop ! $ split ! $ split3 ! $
    move ! (1 ∷ []) $ lft_end ! tt $ drop ! $ move ! (2 ∷ []) $
    -- [the box; the token of κ; nothing]
    box_out E ! r (u ∷ []) (λ b' o' h' e' us fits'. box_in E ! r b' o' r.value e' refl $ rewrite ! 0 (λ (xs : List Val). ‵ (B.own_val r xs)) (sym us) refl $
    let good : Holds (has_ty (layout B) u) × WT u = subst (λ (v : Val). Holds (has_ty (layout B) v) × WT v) (sym (ap only us)) (box.box_typed E h' b' o' fits') in
    lands_last ! refl good $ exec ! 𝓣.C 𝓣.Λ Ev (after 2 fn.body) (at_ret Ev Post) $ sets ! (of_opd ! (get ! refl)) refl good $
    returns ! (look_at ! 0 refl) $ free_all ! refl $ move ! (1 ∷ 2 ∷ []) $ join ! $
    use0 𝓛 (raw (fact 𝓤 (r.value ≡ d.value))) (fact_i 𝓤 (r.value ≡ d.value) (emp 𝓤) same) $ nothing ! $ nothing ! $ fjoin ! $ nothing ! $ fjoin ! $ move ! (2 ∷ 0 ∷ 3 ∷ 1 ∷ []) $
    by ! (leaves 𝓛 En hs c z u r (_, (_, tt)) (tt, (tt, tt)))))))))))))))
