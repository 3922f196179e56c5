-- `of` takes over what the box owns.
use Rattle.std.proofs.Common.{◌≡◌, List, [], ◌∷◌, ◌++◌, refl, sym, subst}
use mir.Raw.{raw as bare}
use mir.Syntax.{tcons, tnil, ty_ptr}
use mir.Val.{Val, vptr}
use base.Logic.{SProp, ent, emp, never, id⊢, fst∗}
use prog.Wp.{WpFn}
use types.Logic.{sem}
use types.Kit.{‵, raw, ◌⊛◌, ◌$◌, ◌∵◌, !, qed, by, move, keep, split, fsplit, fjoin, suffices, use0}
use types.Run.{stop, fld, of_opd, no_more, and_then, returns, enter}
use types.ByLocal.{alloc_all, pass_all, free_all, look_at, get, get_in, sets}
use types.Part.{agg, sub, whole}
use contract.Monad.{fact, fact_i}
use contract.Running.{tables}
use denote.Exit.{yes}
use denote.RattleType.{RattleType, owns}
use denote.Signature.{types_at, plain}
use denote.RawPtr.{Ptr, block_ptr, null_ptr, ptr_val, in_a_block}
use denote.Steps.{nothing}
use denote.Triple.Entry.{alive}
use denote.Triple.Walked.{Stays, stay_dropped, walk_of}
use Rattle.sno_compiled.specs.Blocks.{chunk}
use Rattle.std.specs.Prelude.{Some}
use Rattle.std.specs.Box.Ownership.{box_owns}
use Rattle.std.proofs.alloc.Calls.{Goes-blank}
use Rattle.std.proofs.raw_atomic.Walks.{proved_at, leaves}
use Rattle.sno_compiled.proofs.Values.{one, loose_out}
use Rattle.sno_c.proofs.Values.{kept_in}
use Rattle.sno_c.specs.contracts.held.Held.{the_row as R}
use Rattle.sno_compiled.specs.contracts.loose.Loose as loose
use Rattle.sno_c.specs.contracts.kept.Kept.{the_row}
use Rattle.sno_c.specs.contracts.kept.Kept.of.{ended, clauses}
use Rattle.sno_c.specs.contracts.kept.Kept.of.Key.{name as #self}
use Rattle.sno_c.proofs.kept.Kept.of.Statement.{statement}
use Rattle.sno_c.proofs.kept.Kept.of.Code as code

pub of_spec : {M : Type 1} → statement M
of_spec 𝓤 𝓛 𝓜 𝓡 wired =
    let H = 𝓛.H in let 𝓣 = tables 𝓤 H 𝓜 𝓡 𝓡.env in let c = clauses 𝓛 𝓜.mem 𝓡.returns in let S : RattleType = loose.the_row R in
    let hs : Stays ended.signature.params ended.kept = (stay_dropped (plain (λ _. S)) yes, tt) in
    proved_at 𝓛 ended hs c 𝓜 𝓡 (Goes-blank 𝓛 0 (plain (λ _. S)) yes (λ κs x f. tt), tt) #self code.function (code.unfolded 𝓤 H 𝓜 𝓡 wired) (λ z are.
    let d = z.0.3.0 in let Post : Val → SProp 𝓤 = (walk_of 𝓛 ended hs c).post z in let Run : List Val → SProp 𝓤 = λ ws. WpFn 𝓤 H 𝓣.C 𝓣.Λ code.function ws Post in
    qed 𝓛 ((raw (alive 𝓛 ended.signature z.0.0 z.0.1) ⊛ ‵ (owns (types_at ended.signature.params z.0.0) z.0.3 z.0.4)) ∷ raw ((c z.0.0 z.0.3).requires z.1) ∷ []) ∵
    split ! $ keep ! (1 ∷ 0 ∷ []) $ fsplit ! $
    loose_out R ! d z.0.4.0 (λ ws. in_a_block ! d.at (λ p. box_owns chunk R p d.value) (fst∗ 𝓤 (never 𝓤) (sem 𝓛 (chunk (bare (denote.Param.layout R)) null_ptr))) (λ b o at.
    let reported : z.0.4.0 ≡ one (vptr b o) ∷ [] = subst (λ (p : Ptr). z.0.4.0 ≡ one (ptr_val p) ∷ []) at ws in let r : the_row.Denot = record { at = block_ptr b o; value = Some d.value } in
    suffices ! (Run (one (vptr b o) ∷ [])) (subst (λ (us : List Val). ent 𝓤 (Run (one (vptr b o) ∷ [])) (Run us)) (sym (λ i. reported i ++ [])) (id⊢ 𝓤 (Run (one (vptr b o) ∷ [])))) $
    -- [the box; nothing; the tokens]
    keep ! (0 ∷ 2 ∷ []) $ enter ! 𝓣.C 𝓣.Λ code.function (one (vptr b o) ∷ []) Post $ alloc_all ! (λ l. pass_all ! refl ((tt, (tt, tt)), tt) $
    sets ! (of_opd ! (get_in ! (fld ! refl (stop !)) (sub ! {τs = tcons ty_ptr tnil} 0 refl (whole !)))) refl (tt, tt) $ sets ! (of_opd ! (get ! refl)) refl (tt, tt) $ sets ! (agg ! (and_then ! (get ! refl) (no_more !))) refl (tt, (tt, tt)) $
    returns ! (look_at ! 0 refl) $ free_all ! refl $
    kept_in ! (block_ptr b o) (Some d.value) $ use0 𝓛 (raw (fact 𝓤 (r.value ≡ Some d.value))) (fact_i 𝓤 (r.value ≡ Some d.value) (emp 𝓤) refl) $ nothing ! $ nothing ! $ fjoin ! $ move ! (3 ∷ 0 ∷ 2 ∷ 1 ∷ []) $
    by ! (leaves 𝓛 ended hs c z (one (ptr_val (block_ptr b o))) r (_, tt) (tt, tt))))))
