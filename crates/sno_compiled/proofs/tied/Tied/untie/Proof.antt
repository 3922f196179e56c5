-- `untie` frees what borrows, and ends its lifetime.
use Rattle.std.proofs.Common.{◌≡◌, List, [], ◌∷◌, ◌++◌, refl, sym, ap, subst}
use mir.Raw.{raw as bare}
use mir.Syntax.{tcons, tnil, ty_ptr}
use mir.Val.{Val, vptr}
use base.Fraction.{full_share}
use base.Logic.{SProp, ent, emp, never, id⊢, fst∗}
use base.Fml.{ftrue, flft}
use prog.Wp.{WpFn}
use types.Logic.{sem}
use types.Kit.{‵, raw, ◌⊛◌, some, later, ◌$◌, ◌∵◌, !, qed, by, move, keep, drop, split, join, fsplit, fsplit3, fjoin, fpick, pick, suffices, use0, use1, await, feq_l}
use types.Run.{stop, fld, of_opd, no_more, and_then, returns, enter}
use types.ByLocal.{alloc_all, pass_all, free_all, look_at, get, get_in, sets, lands_as}
use types.Part.{agg, sub, whole}
use types.Tokens.{lft_end, lent_back}
use contract.Monad.{fact, fact_i}
use contract.Running.{tables}
use denote.Exit.{yes}
use denote.Builtin.{unit}
use denote.RattleType.{RattleType, owns}
use denote.Signature.{types_at, plain}
use denote.RawPtr.{Ptr, block_ptr, null_ptr, ptr_val, in_a_block}
use denote.Steps.{nothing, only}
use denote.Triple.Clauses.{Lasts, lasts}
use denote.Triple.Entry.{alive}
use denote.Triple.Spec.{triple_of}
use denote.Triple.Call.{calls_at}
use denote.Triple.Walked.{Stays, stay_dropped, walk_of, Goes-dropped}
use denote.Triple.Table.{framed}
use Rattle.sno_compiled.specs.Blocks.{chunk}
use Rattle.std.specs.Box.Ownership.{box_owns}
use Rattle.std.proofs.alloc.Calls.{Goes-blank, handle_tells}
use Rattle.std.proofs.raw_atomic.Walks.{proved_at, leaves}
use Rattle.sno_compiled.proofs.Heap.{global}
use Rattle.sno_compiled.proofs.Values.{one, two, loose_in, tied_out}
use Rattle.sno_compiled.specs.Owned.{tied_at, ready_row}
use Rattle.sno_statement.specs.contracts.file_statements.FileStatement.{the_row as S}
use Rattle.sno_compiled.specs.contracts.loose.Loose as loose
use Rattle.sno_compiled.specs.contracts.tied.Tied.{the_row}
use Rattle.sno_compiled.specs.contracts.ready.forget as callee
use Rattle.sno_compiled.proofs.ready.forget.Met.{met}
use Rattle.sno_compiled.specs.contracts.tied.Tied.untie.{ended, clauses}
use Rattle.sno_compiled.specs.contracts.tied.Tied.untie.Key.{name as #self}
use Rattle.sno_compiled.proofs.tied.Tied.untie.Statement.{statement}
use Rattle.sno_compiled.proofs.tied.Tied.untie.Code as code

pub untie_spec : {M : Type 1} → statement M
untie_spec 𝓤 𝓛 𝓜 𝓡 wired =
    let H = 𝓛.H in let 𝓣 = tables 𝓤 H 𝓜 𝓡 𝓡.env in let c = clauses 𝓛 𝓜.mem 𝓡.returns in let Z : RattleType = global.row in
    let hs : Stays ended.signature.params ended.kept = (stay_dropped (plain (λ _. the_row)) yes, (stay_dropped (plain (λ _. Z)) yes, tt)) in
    proved_at 𝓛 ended hs c 𝓜 𝓡 (Goes-blank 𝓛 0 (plain (λ _. the_row)) yes (λ κs x f. tt), (Goes-dropped 𝓛 0 (plain (λ _. Z)) yes (λ κs x f. refl), tt)) #self code.function (code.unfolded 𝓤 H 𝓜 𝓡 wired) (λ z are.
    let d = z.0.3.0 in let a = z.0.3.1.0 in let x = d.value in let Post : Val → SProp 𝓤 = (walk_of 𝓛 ended hs c).post z in let Run : List Val → SProp 𝓤 = λ ws. WpFn 𝓤 H 𝓣.C 𝓣.Λ code.function ws Post in
    qed 𝓛 ((raw (alive 𝓛 ended.signature z.0.0 z.0.1) ⊛ ‵ (owns (types_at ended.signature.params z.0.0) z.0.3 z.0.4)) ∷ raw ((c z.0.0 z.0.3).requires z.1) ∷ []) ∵
    split ! $ keep ! (1 ∷ 0 ∷ []) $ fsplit3 ! $
    tied_out ! d z.0.4.0 (λ ws. in_a_block ! d.statement (λ p. tied_at p d.ready x) (id⊢ 𝓤 _) (λ b o at. fpick ! (λ α. let ρ = α ∷ [] in let R : RattleType = ready_row α in let L : RattleType = loose.the_row R in
    fsplit3 ! $ move ! (2 ∷ []) $ fpick ! (λ v. fsplit ! $ drop ! $
    in_a_block ! d.ready (λ p. box_owns chunk R p v) (fst∗ 𝓤 (never 𝓤) (sem 𝓛 (chunk (bare (denote.Param.layout R)) null_ptr))) (λ rb ro rat.
    -- [the box of what is ready; the token; the statement, lent; the handle; nothing; the tokens]
    move ! (3 ∷ []) $ handle_tells global ! a z.0.4.1.0 (λ h eh fits.
    let reported : z.0.4.0 ≡ two (vptr b o) (vptr rb ro) ∷ [] = subst (λ (ps : Ptr × Ptr). z.0.4.0 ≡ two (ptr_val ps.0) (ptr_val ps.1) ∷ []) (λ i. (at i, rat i)) ws in
    suffices ! (Run (two (vptr b o) (vptr rb ro) ∷ h ∷ [])) (subst (λ (us : List Val). ent 𝓤 (Run (two (vptr b o) (vptr rb ro) ∷ h ∷ [])) (Run us)) (sym (λ i. reported i ++ (eh i ++ []))) (id⊢ 𝓤 (Run (two (vptr b o) (vptr rb ro) ∷ h ∷ [])))) $
    keep ! (0 ∷ 1 ∷ 2 ∷ 3 ∷ 5 ∷ []) $
    enter ! 𝓣.C 𝓣.Λ code.function (two (vptr b o) (vptr rb ro) ∷ h ∷ []) Post $ alloc_all ! (λ l. pass_all ! refl ((tt, (tt, (tt, tt))), (fits, tt)) $
    sets ! (of_opd ! (get_in ! (fld ! refl (stop !)) (sub ! {τs = tcons ty_ptr (tcons ty_ptr tnil)} 0 refl (whole !)))) refl (tt, tt) $
    sets ! (of_opd ! (get_in ! (fld ! refl (stop !)) (sub ! {τs = tcons ty_ptr (tcons ty_ptr tnil)} 1 refl (whole !)))) refl (tt, tt) $
    sets ! (of_opd ! (get ! refl)) refl (tt, tt) $ sets ! (agg ! (and_then ! (get ! refl) (no_more !))) refl (tt, (tt, tt)) $
    let l : L.Denot = record { at = block_ptr rb ro; value = v } in
    let k = triple_of 𝓛 callee.signature (callee.spec 𝓛 𝓜.mem 𝓡.returns) in
    let y : k.Ghost = (((ρ, tt), (full_share, tt), tt, (a, (l, tt)), (h ∷ [], (one (vptr rb ro) ∷ [], tt))), tt) in
    move ! (1 ∷ []) $ loose_in R ! (block_ptr rb ro) v $ nothing ! $ move ! (1 ∷ 0 ∷ []) $ fjoin ! $ move ! (1 ∷ 0 ∷ []) $ fjoin ! $
    nothing ! $ move ! (2 ∷ 0 ∷ []) $ join ! $ join ! $ nothing ! $ move ! (1 ∷ 0 ∷ []) $ join ! $ use1 𝓛 (raw (k.pre y)) (id⊢ 𝓤 _) $
    calls_at ! (framed 𝓤 H 𝓜 𝓣) k (met 𝓤 𝓛 𝓜 𝓡 (code.calls-sno_compiled::ready::forget 𝓡.env wired)) y (and_then ! (get ! refl) (and_then ! (get ! refl) (no_more !))) (λ u.
    use1 𝓛 (later (some (λ (r : Unit {0}). ((‵ (flft ρ full_share) ⊛ ‵ ftrue) ⊛ ‵ (unit.own_val r (u ∷ []))) ⊛ some (λ (ls : Lasts callee.ended y.0.0 y.0.3). ‵ (lasts callee.ended y.0.0 y.0.3 ls) ⊛ ‵ ftrue)))) (id⊢ 𝓤 (k.post y u)) $
    await ! tt $ pick ! (λ r. split ! $ split ! $ split ! $ lft_end ! tt $ move ! (2 ∷ []) $ feq_l ! (λ is.
    lands_as ! (ap only is) refl (tt, tt) $
    -- [the lifetime is over; nothing; nothing; the statement, lent; the tokens]
    move ! (3 ∷ []) $ fsplit ! $ move ! (2 ∷ 0 ∷ []) $ lent_back ! tt $ fjoin ! $ loose_in S ! (block_ptr b o) x $
    sets ! (agg ! (and_then ! (get ! refl) (no_more !))) refl (tt, (tt, tt)) $ returns ! (look_at ! 0 refl) $ free_all ! refl $
    use0 𝓛 (raw (fact 𝓤 (x ≡ x))) (fact_i 𝓤 (x ≡ x) (emp 𝓤) refl) $ nothing ! $ nothing ! $ fjoin ! $ nothing ! $ fjoin ! $ keep ! (5 ∷ 0 ∷ 2 ∷ 1 ∷ []) $
    by ! (leaves 𝓛 ended hs c z (one (vptr b o)) (record { at = block_ptr b o; value = x }) (_, (_, tt)) (tt, (tt, tt))))))))))))))
