-- `of` begins a lifetime, lends the statement for it, and has what borrows made.
use Rattle.std.proofs.Common.{◌≡◌, ℕ, List, [], ◌∷◌, ◌++◌, refl, sym, ap, subst, ◌∙◌, lit<}
use mir.Raw.{raw as bare}
use mir.Syntax.{tcons, tnil, ty_ptr, named, Body}
use mir.Val.{Val, vptr, vstruct, vnil, of_list}
use base.Fraction.{full_share}
use base.Logic.{SProp, ent, emp, never, id⊢, fst∗}
use base.Fml.{Lft, Incl-refl, ftrue, flft, flent}
use prog.Wp.{WpFn, Wp, after_seq, at_return}
use types.Logic.{sem}
use types.Kit.{‵, raw, ◌⊛◌, some, later, ◌$◌, ◌∵◌, !, qed, by, move, keep, drop, split, join, fsplit, fsplit3, fjoin, fpick, fpack, pick, suffices, use0, use1, use2, await, feq_l, feq_i, at_ret, any_q}
use types.Match.{live, vrt, in_variant}
use types.Run.{stop, fld, lit, addr, of_opd, no_more, and_then, returns, enter, first, blocks, exec, switches_on}
use types.ByLocal.{alloc_all, pass_all, free_all, look_at, get, get_in, get_tag, through, sets, sets_last, lands_as, env}
use types.Part.{agg, sub, whole}
use types.Tokens.{lft_new, lft_end, lent_back}
use contract.BorrowLft.{⊑_static}
use contract.Monad.{fact, fact_i}
use contract.Running.{tables}
use denote.Exit.{yes}
use denote.Lend.{lends_shr}
use denote.Memory.{part_at}
use denote.Ref.{Bor, ShrRef}
use denote.RattleType.{RattleType, owns}
use denote.Signature.{types_at, plain}
use denote.RawPtr.{Ptr, block_ptr, null_ptr, ptr_val, in_a_block}
use denote.Steps.{nothing, only, heard}
use denote.Triple.Clauses.{Lasts, lasts}
use denote.Triple.Entry.{alive}
use denote.Triple.Spec.{triple_of}
use denote.Triple.Call.{calls_at}
use denote.Triple.Walked.{Stays, stay_dropped, walk_of, Goes-dropped}
use denote.Triple.Table.{framed}
use Rattle.sno_compiled.specs.Blocks.{chunk}
use Rattle.std.specs.Prelude.{Ok, Err, IfOk, IfErr}
use Rattle.std.specs.Box.Ownership.{box_owns}
use Rattle.std.specs.contracts.alloc.AllocError.{the_row as AE}
use Rattle.std.specs.contracts.result.Result as result
use Rattle.std_alloc.proofs.ResultValues.{ok_of, err_of}
use Rattle.std_alloc.proofs.VecSteps.Shapes.{after, head, arm_body}
use Rattle.std.proofs.alloc.Calls.{Goes-blank, handle_tells}
use Rattle.std.proofs.raw_atomic.Walks.{proved_at, leaves}
use Rattle.sno_compiled.proofs.Heap.{global}
use Rattle.sno_compiled.proofs.Values.{one, two, loose_in, loose_out, tied_in, result_out}
use Rattle.sno_compiled.specs.Owned.{life_owns, ready_owns, ready_row}
use Rattle.sno_compiled.specs.declared.ready.Ready.{Ready}
use Rattle.sno_statement.specs.Statement.{Statement}
use Rattle.sno_statement.specs.contracts.file_statements.FileStatement.{the_row as S}
use Rattle.sno_statement.proofs.file_statements.FileStatement.TheLaws as statement_laws
use Rattle.sno_compiled.specs.contracts.loose.Loose as loose
use Rattle.sno_compiled.specs.contracts.tied.Tied.{the_row}
use Rattle.sno_compiled.specs.contracts.ready.make_ready as callee
use Rattle.sno_compiled.proofs.ready.make_ready.Met.{met}
use Rattle.sno_compiled.specs.contracts.tied.Tied.of.{ended, clauses}
use Rattle.sno_compiled.specs.contracts.tied.Tied.of.Key.{name as #self}
use Rattle.sno_compiled.proofs.tied.Tied.of.Statement.{statement}
use Rattle.sno_compiled.proofs.tied.Tied.of.Code as code

pub of_spec : {M : Type 1} → statement M
of_spec 𝓤 𝓛 𝓜 𝓡 wired =
    let H = 𝓛.H in let 𝓣 = tables 𝓤 H 𝓜 𝓡 𝓡.env in let c = clauses 𝓛 𝓜.mem 𝓡.returns in let Z : RattleType = global.row in let LS : RattleType = loose.the_row S in
    let fn = code.function in let Out : RattleType = result.the_row the_row LS in
    let hs : Stays ended.signature.params ended.kept = (stay_dropped (plain (λ _. Z)) yes, (stay_dropped (plain (λ _. LS)) yes, tt)) in
    proved_at 𝓛 ended hs c 𝓜 𝓡 (Goes-dropped 𝓛 0 (plain (λ _. Z)) yes (λ κs x f. refl), (Goes-blank 𝓛 0 (plain (λ _. LS)) yes (λ κs x f. tt), tt)) #self fn (code.unfolded 𝓤 H 𝓜 𝓡 wired) (λ z are.
    let a = z.0.3.0 in let d = z.0.3.1.0 in let x : Statement = d.value in let Post : Val → SProp 𝓤 = (walk_of 𝓛 ended hs c).post z in let Run : List Val → SProp 𝓤 = λ ws. WpFn 𝓤 H 𝓣.C 𝓣.Λ fn ws Post in
    qed 𝓛 ((raw (alive 𝓛 ended.signature z.0.0 z.0.1) ⊛ ‵ (owns (types_at ended.signature.params z.0.0) z.0.3 z.0.4)) ∷ raw ((c z.0.0 z.0.3).requires z.1) ∷ []) ∵
    split ! $ keep ! (1 ∷ 0 ∷ []) $ fsplit3 ! $ move ! (1 ∷ []) $
    loose_out S ! d z.0.4.1.0 (λ ws. in_a_block ! d.at (λ p. box_owns chunk S p x) (fst∗ 𝓤 (never 𝓤) (sem 𝓛 (chunk (bare (denote.Param.layout S)) null_ptr))) (λ b o at. move ! (1 ∷ []) $
    handle_tells global ! a z.0.4.0 (λ h eh fits.
    let reported : z.0.4.1.0 ≡ one (vptr b o) ∷ [] = subst (λ (p : Ptr). z.0.4.1.0 ≡ one (ptr_val p) ∷ []) at ws in let us : List Val = h ∷ one (vptr b o) ∷ [] in let s : Ptr = block_ptr b o in
    suffices ! (Run us) (subst (λ (vs : List Val). ent 𝓤 (Run us) (Run vs)) (sym (λ i. eh i ++ (reported i ++ []))) (id⊢ 𝓤 (Run us))) $
    -- [the handle; the box; the tokens]
    keep ! (0 ∷ 1 ∷ 3 ∷ []) $ enter ! 𝓣.C 𝓣.Λ fn us Post $ alloc_all ! (λ l. pass_all ! refl (fits, ((tt, (tt, tt)), tt)) $ let Ev = env fn.locals l in
    sets ! (of_opd ! (get_in ! (fld ! refl (stop !)) (sub ! {τs = tcons ty_ptr tnil} 0 refl (whole !)))) refl (tt, tt) $ sets ! (of_opd ! (get ! refl)) refl fits $
    first ! $ blocks ! $ sets_last ! (addr ! (through ! refl (stop !))) refl (tt, tt) $ exec ! 𝓣.C 𝓣.Λ Ev (after 3 fn.body) (at_ret Ev Post) $ sets ! (of_opd ! (get ! refl)) refl (tt, tt) $
    lft_new ! tt (λ α. let ρ : Lft = α ∷ [] in let R : RattleType = ready_row α in let L : RattleType = loose.the_row R in
    let ref : Bor Statement = record { ref_ptr = (b, o); now = x } in let F : RattleType = ShrRef (named 0) ρ S in
    move ! (2 ∷ []) $ fsplit ! $ move ! (0 ∷ 2 ∷ []) $
    use2 𝓛 (later ((‵ (F.own_val ref (vptr b o ∷ [])) ⊛ ‵ (flent ρ (part_at S full_share x b o))) ⊛ ‵ (flft ρ full_share)))
    (lends_shr 𝓛 S (named 0) ρ full_share x b o S.lives (statement_laws.the_row_laws.shares 𝓛 x) ((ρ, full_share) ∷ []) (⊑_static ρ) (Incl-refl ρ)) $
    await ! tt $ split ! $ split ! $
    -- [the reference; the statement, lent; the token; the right to free; the handle; the tokens]
    let k = triple_of 𝓛 callee.signature (callee.spec 𝓛 𝓜.mem 𝓡.returns) in let Made : RattleType = result.the_row L AE in
    let y : k.Ghost = (((ρ, tt), (full_share, tt), tt, (a, (ref, tt)), (h ∷ [], (vptr b o ∷ [], tt))), tt) in
    nothing ! $ move ! (1 ∷ 0 ∷ []) $ fjoin ! $ move ! (4 ∷ 0 ∷ []) $ fjoin ! $ nothing ! $ move ! (3 ∷ 0 ∷ []) $ join ! $ join ! $ nothing ! $ move ! (1 ∷ 0 ∷ []) $ join ! $ use1 𝓛 (raw (k.pre y)) (id⊢ 𝓤 _) $
    calls_at ! (framed 𝓤 H 𝓜 𝓣) k (met 𝓤 𝓛 𝓜 𝓡 (code.calls-sno_compiled::ready::make_ready 𝓡.env wired)) y (and_then ! (get ! refl) (and_then ! (get ! refl) (no_more !))) (λ u.
    use1 𝓛 (later (some (λ (r : Made.Denot). ((‵ (flft ρ full_share) ⊛ ‵ ftrue) ⊛ ‵ (Made.own_val r (u ∷ []))) ⊛ some (λ (ls : Lasts callee.ended y.0.0 y.0.3). ‵ (lasts callee.ended y.0.0 y.0.3 ls) ⊛ raw (fact 𝓤 (IfOk r (λ m. m.value.statement.now ≡ x))))))) (id⊢ 𝓤 (k.post y u)) $
    await ! tt $ pick ! (λ r. split ! $ move ! (1 ∷ []) $ pick ! (λ ls. split ! $ drop ! $ heard ! (IfOk r (λ m. m.value.statement.now ≡ x)) (λ so. split ! $ split ! $ move ! (2 ∷ []) $
    -- [what was made; the token; nothing; the statement, lent; the right to free; the tokens]
    let arms : Body = head (after 5 fn.body) in let Then = any_q (after_seq 𝓤 H (Wp 𝓤 H 𝓣.C 𝓣.Λ Ev (after 6 fn.body) (at_return 𝓤 H Ev Post)) (at_return 𝓤 H Ev Post)) in
    result_out L AE ! r u
    (λ m is vs e. loose_out R ! m vs (λ es. in_a_block ! m.at (λ p. box_owns chunk R p m.value) (fst∗ 𝓤 (never 𝓤) (sem 𝓛 (chunk (bare (denote.Param.layout R)) null_ptr))) (λ rb ro rat.
    let v : Val = live 0 (of_list (one (vptr rb ro) ∷ [])) in let rp : Ptr = block_ptr rb ro in
    let at_v : u ≡ v = ap only (e ∙ ap (λ (ws' : List Val). live 0 (of_list (ws' ++ [])) ∷ []) (subst (λ (p : Ptr). vs ≡ one (ptr_val p) ∷ []) rat es)) in
    let same : m.value.statement.now ≡ x = subst (λ (q : Made.Denot). IfOk q (λ n. n.value.statement.now ≡ x)) is so in
    let made : the_row.Denot = record { statement = s; ready = rp; value = x } in let w : Val = two (vptr b o) (vptr rb ro) in let out : Out.Denot = Ok made in let out_v : Val = live 0 (of_list (w ∷ [])) in
    lands_as ! at_v refl (tt, (record { fits = lit< tt }, ((tt, tt), tt))) $ first ! $ switches_on ! (get_tag ! (vrt ! refl (fld ! refl (stop !))) (whole !)) $ exec ! 𝓣.C 𝓣.Λ Ev (arm_body 0 arms) Then $
    sets ! (of_opd ! (get_in ! (vrt ! refl (fld ! refl (stop !))) (in_variant ! 0 0 refl refl (whole !)))) refl (tt, (tt, tt)) $
    sets ! (of_opd ! (get_in ! (fld ! refl (stop !)) (sub ! {τs = tcons ty_ptr tnil} 0 refl (whole !)))) refl (tt, tt) $
    sets ! (of_opd ! (get ! refl)) refl (tt, tt) $ sets ! (of_opd ! (get ! refl)) refl (tt, tt) $ sets ! (of_opd ! (get ! refl)) refl (tt, tt) $
    sets ! (agg ! (and_then ! (get ! refl) (and_then ! (get ! refl) (no_more !)))) refl (tt, (tt, (tt, tt))) $
    sets_last ! (agg ! (and_then ! (lit ! tt) (and_then ! (get ! refl) (no_more !)))) refl (tt, (record { fits = lit< tt }, ((tt, (tt, tt)), tt))) $
    exec ! 𝓣.C 𝓣.Λ Ev (after 6 fn.body) (at_ret Ev Post) $ sets ! (of_opd ! (get ! refl)) refl (tt, (record { fits = lit< tt }, ((tt, (tt, tt)), tt))) $
    feq_i ! Statement m.value.statement.now x same $ fjoin ! $ fpack ! Ready (ready_owns s rp x α) m.value $
    move ! (3 ∷ 4 ∷ []) $ fjoin ! $ fjoin ! $ move ! (1 ∷ 0 ∷ []) $ fjoin ! $ fpack ! ℕ (life_owns s rp x) α $ tied_in ! s rp x $
    use1 𝓛 (‵ (Out.own_val out (out_v ∷ []))) (ok_of 𝓛 the_row LS made w) $
    returns ! (look_at ! 0 refl) $ free_all ! refl $
    use0 𝓛 (raw (fact 𝓤 (IfErr out (λ q. q.value ≡ x)))) (fact_i 𝓤 (IfErr out (λ q. q.value ≡ x)) (emp 𝓤) tt) $ use0 𝓛 (raw (fact 𝓤 (IfOk out (λ q. q.value ≡ x)))) (fact_i 𝓤 (IfOk out (λ q. q.value ≡ x)) (emp 𝓤) refl) $ join ! $
    nothing ! $ nothing ! $ fjoin ! $ nothing ! $ fjoin ! $ keep ! (4 ∷ 0 ∷ 2 ∷ 1 ∷ []) $ by ! (leaves 𝓛 ended hs c z out_v out (_, (_, tt)) (tt, (tt, tt))))))
    (λ m is vs e. fpick ! (λ vss. fsplit ! $ feq_l ! (λ es. drop ! $
    let v : Val = live 1 (of_list (vstruct vnil ∷ [])) in let at_v : u ≡ v = ap only (e ∙ ap (λ (ws' : List Val). live 1 (of_list (ws' ++ [])) ∷ []) es) in
    let back : LS.Denot = record { at = s; value = x } in let w : Val = one (vptr b o) in let out : Out.Denot = Err back in let out_v : Val = live 1 (of_list (w ∷ [])) in
    lands_as ! at_v refl (tt, (record { fits = lit< tt }, (tt, tt))) $ first ! $ switches_on ! (get_tag ! (vrt ! refl (fld ! refl (stop !))) (whole !)) $ exec ! 𝓣.C 𝓣.Λ Ev (arm_body 1 arms) Then $
    sets ! (of_opd ! (get ! refl)) refl (tt, tt) $ sets ! (agg ! (and_then ! (get ! refl) (no_more !))) refl (tt, (tt, tt)) $
    sets_last ! (agg ! (and_then ! (lit ! tt) (and_then ! (get ! refl) (no_more !)))) refl (tt, (record { fits = lit< tt }, ((tt, tt), tt))) $
    exec ! 𝓣.C 𝓣.Λ Ev (after 6 fn.body) (at_ret Ev Post) $ sets ! (of_opd ! (get ! refl)) refl (tt, (record { fits = lit< tt }, ((tt, tt), tt))) $
    lft_end ! tt $ move ! (0 ∷ 2 ∷ []) $ lent_back ! tt $ move ! (0 ∷ 2 ∷ []) $ fjoin ! $ loose_in S ! s x $
    use1 𝓛 (‵ (Out.own_val out (out_v ∷ []))) (err_of 𝓛 the_row LS back w) $
    returns ! (look_at ! 0 refl) $ free_all ! refl $
    use0 𝓛 (raw (fact 𝓤 (IfErr out (λ q. q.value ≡ x)))) (fact_i 𝓤 (IfErr out (λ q. q.value ≡ x)) (emp 𝓤) refl) $ use0 𝓛 (raw (fact 𝓤 (IfOk out (λ q. q.value ≡ x)))) (fact_i 𝓤 (IfOk out (λ q. q.value ≡ x)) (emp 𝓤) tt) $ join ! $
    nothing ! $ nothing ! $ fjoin ! $ nothing ! $ fjoin ! $ keep ! (4 ∷ 0 ∷ 2 ∷ 1 ∷ []) $ by ! (leaves 𝓛 ended hs c z out_v out (_, (_, tt)) (tt, (tt, tt))))))))))))))))
