-- `search` lends what is ready, and has it back.
use Rattle.std.proofs.Common.{◌≡◌, ℕ, ◌<◌, ◌≤◌, List, [], ◌∷◌, ◌++◌, length, refl, sym, subst, w32, w64}
use lib.Dec.{T as Holds}
use mir.Syntax.{named}
use mir.Val.{Val, WT, has_ty, vptr, vint}
use base.Logic.{SProp, ent, emp, id⊢}
use base.Fml.{Lft, Share, ftrue, flft}
use prog.Wp.{WpFn}
use types.Kit.{‵, raw, ◌⊛◌, some, later, ◌$◌, ◌∵◌, !, qed, by, move, keep, drop, split, split3, join, fsplit, fsplit3, fjoin, fjoin3, pick, rewrite, suffices, use0, use1, await, at_ret}
use types.Run.{stop, fld, load, addr, of_opd, no_more, and_then, returns, enter, first, blocks, exec}
use types.ByLocal.{alloc_all, pass_all, free_all, look_at, get, through, sets, lands_last, env}
use types.Part.{sub, whole, look_in}
use contract.Monad.{fact, fact_i}
use contract.Running.{tables}
use denote.Builtin.{RefOf, usize, u32, unit}
use denote.Exit.{yes}
use denote.Laws.{Is, shows}
use denote.Param.{layout}
use denote.Param.Laws.{of_field}
use denote.Param.Shared.{copy_shared}
use denote.Plain.{uint_Tells}
use denote.Ref.{MutRef, ShrRef}
use denote.RattleType.{RattleType, owns}
use denote.Signature.{types_at, plain}
use denote.Steps.{nothing, heard, peeks}
use denote.Struct.Field.{unit-field}
use denote.Struct.Laws.{unit-laws, unit-copy}
use denote.Triple.Clauses.{Lasts, lasts}
use denote.Triple.Spec.{triple_of}
use denote.Triple.Call.{calls_at_last}
use denote.Triple.Walked.{Stays, stay_dropped, stay_ref, gave_ref, walk_of, Goes-dropped, Goes-ref, Goes-gave_ref}
use denote.Triple.Table.{framed}
use Rattle.std.specs.Prelude.{IfOk, IfErr, None, Some}
use Rattle.std.specs.contracts.result.Result as result
use Rattle.std.proofs.result.Result.TheLaws as result_laws
use Rattle.std_alloc.proofs.VecSteps.Shapes.{after}
use Rattle.std.proofs.alloc.Calls.{handle_tells}
use Rattle.std.proofs.raw_atomic.Walks.{proved_at, leaves}
use Rattle.sno_pattern.specs.contracts.found.Found as found
use Rattle.std.specs.contracts.option.Option as option
use Rattle.sno_statement.specs.Passes as passes
use Rattle.sno_pattern.specs.contracts.byte_texts.ByteText.{the_row as X}
use Rattle.sno_statement.specs.Statement.{Statement}
use Rattle.sno_statement.specs.contracts.file_faults.FileStatementFault as fault
use Rattle.sno_statement.proofs.file_faults.FileStatementFault.TheLaws as fault_laws
use Rattle.sno_statement.specs.declared.file_faults.FileStatementFault.TheVariants.{TextTooLong, TooManyTrials}
use Rattle.sno_compiled.proofs.Heap.{global}
use Rattle.sno_compiled.proofs.Loans.{lends_ready, takes_ready, lent_for, loaned_for, lent_share, loaned_share, within, loan, word}
use Rattle.sno_compiled.specs.declared.ready.Ready.{Ready}
use Rattle.sno_compiled.specs.contracts.tied.Tied.{the_row as T}
use Rattle.sno_compiled.specs.contracts.ready.Ready.search as callee
use Rattle.sno_compiled.proofs.ready.Ready.search.Met.{met}
use Rattle.sno_compiled.specs.contracts.tied.Tied.search.{ended, clauses}
use Rattle.sno_compiled.specs.contracts.tied.Tied.search.Key.{name as #self}
use Rattle.sno_compiled.proofs.tied.Tied.search.Statement.{statement}
use Rattle.sno_compiled.proofs.tied.Tied.search.Code as code

abbrev E : RattleType
E = option.the_row found.the_row

pub search_spec : {M : Type 1} → statement M
search_spec 𝓤 𝓛 𝓜 𝓡 wired =
    let H = 𝓛.H in let 𝓣 = tables 𝓤 H 𝓜 𝓡 𝓡.env in let c = clauses 𝓛 𝓜.mem 𝓡.returns in let Z : RattleType = global.row in let fn = code.function in
    let Out : RattleType = result.the_row unit fault.the_row in let LOut = result_laws.the_row_laws unit fault.the_row (of_field unit-field unit-laws refl (copy_shared unit-field unit-copy)) fault_laws.the_row_laws in
    let text = RefOf (1 ∷ []) tt (plain (λ _. X)) (λ _. tt) in
    let hs : Stays ended.signature.params ended.kept = (stay_ref (0 ∷ []) tt (plain (λ _. T)), (stay_dropped (plain (λ _. Z)) yes, (stay_dropped text yes, (stay_dropped (plain (λ _. usize)) yes, (stay_dropped (plain (λ _. u32)) yes, (gave_ref (2 ∷ []) tt (plain (λ _. E)), tt)))))) in
    proved_at 𝓛 ended hs c 𝓜 𝓡 (Goes-ref 𝓛 3 0 tt (plain (λ _. T)), (Goes-dropped 𝓛 3 (plain (λ _. Z)) yes (λ κs x f. refl), (Goes-dropped 𝓛 3 text yes (λ κs x f. refl), (Goes-dropped 𝓛 3 (plain (λ _. usize)) yes (λ κs x f. refl), (Goes-dropped 𝓛 3 (plain (λ _. u32)) yes (λ κs x f. refl), (Goes-gave_ref 𝓛 3 2 tt (plain (λ _. E)), tt))))))
    #self fn (code.unfolded 𝓤 H 𝓜 𝓡 wired) (λ z are.
    let κ : Lft = z.0.0.0 in let q : Share = z.0.1.0 in let μ : Lft = z.0.0.1.0 in let r : Share = z.0.1.1.0 in let φ : Lft = z.0.0.1.1.0 in let p : Share = z.0.1.1.1.0 in let Post : Val → SProp 𝓤 = (walk_of 𝓛 ended hs c).post z in let Run : List Val → SProp 𝓤 = λ ws. WpFn 𝓤 H 𝓣.C 𝓣.Λ fn ws Post in
    let me = z.0.3.0 in let h : T.Denot = me.now in let x : Statement = h.value in let mb : ℕ = me.ref_ptr.0 in let mo : ℕ = me.ref_ptr.1 in let a = z.0.3.1.0 in let t = z.0.3.1.1.0 in let from : ℕ = z.0.3.1.1.1.0 in let trials : ℕ = z.0.3.1.1.1.1.0 in let out = z.0.3.1.1.1.1.1.0 in
    let tv : Val = vptr t.ref_ptr.0 t.ref_ptr.1 in let ov : Val = vptr out.ref_ptr.0 out.ref_ptr.1 in let says_out = are.1.1.1.1.1.0.0 in let Asked : Type 0 = from ≤ length t.now in
    let says_from = uint_Tells w64 from z.0.4.1.1.1.0 are.1.1.1.0 in let says_trials = uint_Tells w32 trials z.0.4.1.1.1.1.0 are.1.1.1.1.0 in
    qed 𝓛 (((‵ (flft κ q) ⊛ ‵ (flft μ r) ⊛ ‵ (flft φ p) ⊛ ‵ ftrue) ⊛ ‵ (owns (types_at ended.signature.params z.0.0) z.0.3 z.0.4)) ∷ raw (fact 𝓤 Asked) ∷ []) ∵
    move ! (1 ∷ []) $ heard ! Asked (λ asked. split ! $ split3 ! $ move ! (2 ∷ []) $ split ! $ move ! (4 ∷ 2 ∷ 3 ∷ []) $ fsplit3 ! $ move ! (2 ∷ []) $ fsplit3 ! $ move ! (2 ∷ []) $ fsplit3 ! $
    rewrite ! 4 (λ (vs : List Val). ‵ (usize.own_val from vs)) says_from refl $ rewrite ! 0 (λ (vs : List Val). ‵ (u32.own_val trials vs)) says_trials refl $ rewrite ! 1 (λ (vs : List Val). ‵ ((MutRef (named 2) φ E).own_val out vs)) says_out refl $ rewrite ! 3 (λ (vs : List Val). ‵ ((ShrRef (named 1) μ X).own_val t vs)) are.1.1.0.0 refl $
    move ! (6 ∷ []) $ handle_tells global ! a z.0.4.1.0 (λ hv eh fits.
    let us : List Val = vptr mb mo ∷ hv ∷ tv ∷ vint w64 from ∷ vint w32 trials ∷ ov ∷ [] in
    suffices ! (Run us) (subst (λ (vs : List Val). ent 𝓤 (Run us) (Run vs)) (sym (λ i. are.0.0 i ++ (eh i ++ (are.1.1.0.0 i ++ (says_from i ++ (says_trials i ++ (says_out i ++ []))))))) (id⊢ 𝓤 (Run us))) $
    -- [self; its token; the text's token; the handle; the text; from; trials; found; its token]
    keep ! (6 ∷ 7 ∷ 8 ∷ 0 ∷ 4 ∷ 5 ∷ 1 ∷ 2 ∷ 9 ∷ []) $ enter ! 𝓣.C 𝓣.Λ fn us Post $
    alloc_all ! (λ l. pass_all ! refl ((tt, tt), (fits, ((tt, tt), ((tt, record { fits = are.1.1.1.0.1 }), ((tt, record { fits = are.1.1.1.1.0.1 }), ((tt, tt), tt)))))) $ let Ev = env fn.locals l in
    fsplit3 ! $ move ! (1 ∷ 2 ∷ 3 ∷ []) $ lends_ready ! tt h mb mo (λ n. let ρ : Lft = lent_for n in let ν : Lft = loaned_for n in
    -- [the loan; self's cell; the loan's token; half of the lifetime's; what is kept; self's open borrow, in three; its address; the text's token; the handle; the text; from; trials; found; its token]
    sets ! (of_opd ! (load ! (through ! refl (fld ! refl (stop !))) (look_in ! 1 (sub ! 1 refl (whole !))))) refl (tt, tt) $ sets ! (of_opd ! (get ! refl)) refl (tt, tt) $
    first ! $ blocks ! $ sets ! (addr ! (through ! refl (stop !))) refl (tt, tt) $ sets ! (addr ! (through ! refl (stop !))) refl (tt, tt) $
    let k = triple_of 𝓛 callee.signature (callee.spec 𝓛 𝓜.mem 𝓡.returns) in
    let y : k.Ghost = (((ν, (ρ, (μ, (φ, tt)))), (loaned_share n, (lent_share n, (r, (p, tt)))), (within n, tt), (loan n, (a, (t, (from, (trials, (out, tt)))))), (word n ∷ [], (hv ∷ [], (tv ∷ [], (vint w64 from ∷ [], (vint w32 trials ∷ [], (ov ∷ [], tt))))))), tt) in
    nothing ! $ move ! (15 ∷ 0 ∷ []) $ fjoin ! $ move ! (14 ∷ 0 ∷ []) $ fjoin ! $ move ! (13 ∷ 0 ∷ []) $ fjoin ! $ move ! (12 ∷ 0 ∷ []) $ fjoin ! $ move ! (11 ∷ 0 ∷ []) $ fjoin ! $ move ! (1 ∷ 0 ∷ []) $ fjoin ! $
    nothing ! $ move ! (11 ∷ 0 ∷ []) $ join ! $ move ! (10 ∷ 0 ∷ []) $ join ! $ move ! (4 ∷ 0 ∷ []) $ join ! $ move ! (3 ∷ 0 ∷ []) $ join ! $ join ! $
    use0 𝓛 (raw (fact 𝓤 Asked)) (fact_i 𝓤 Asked (emp 𝓤) asked) $ move ! (1 ∷ 0 ∷ []) $ join ! $ use1 𝓛 (raw (k.pre y)) (id⊢ 𝓤 _) $
    -- [the call; self's cell; what is kept; self's open borrow, in three; its address]
    calls_at_last ! (framed 𝓤 H 𝓜 𝓣) k (met 𝓤 𝓛 𝓜 𝓡 (code.calls-sno_compiled::ready::Ready::search 𝓡.env wired)) y
    (and_then ! (get ! refl) (and_then ! (get ! refl) (and_then ! (get ! refl) (and_then ! (get ! refl) (and_then ! (get ! refl) (and_then ! (get ! refl) (no_more !))))))) (λ u.
    let Kept : Ready → Type 0 = λ w. w.statement.now ≡ n.value.statement.now in
    let Finds : Statement → Out.Denot → E.Denot → Type 0 = λ g res w. IfOk res (λ _. w ≡ Some (passes.search g t.now from)) in let Within : Statement → Out.Denot → Type 0 = λ g res. IfOk res (λ _. passes.search_trials g t.now from ≤ trials) in let Refused : Statement → Out.Denot → Type 0 = λ g res. IfErr res (λ e. e ≡ TooManyTrials → trials < passes.search_trials g t.now from) in let Never : Statement → Out.Denot → Type 0 = λ g res. IfErr res (λ e. e ≡ TextTooLong → ⊥) in let Nothing : Out.Denot → E.Denot → Type 0 = λ res w. IfErr res (λ _. w ≡ None) in
    use1 𝓛 (later (some (λ (res : Out.Denot). ((‵ (flft ν (loaned_share n)) ⊛ ‵ (flft ρ (lent_share n)) ⊛ ‵ (flft μ r) ⊛ ‵ (flft φ p) ⊛ ‵ ftrue) ⊛ ‵ (Out.own_val res (u ∷ [])))
    ⊛ some (λ (ls : Lasts callee.ended y.0.0 y.0.3). ‵ (lasts callee.ended y.0.0 y.0.3 ls) ⊛ (raw (fact 𝓤 (Kept ls.0)) ⊛ raw (fact 𝓤 (Finds n.value.statement.now res ls.1.1.1.1.1.0)) ⊛ raw (fact 𝓤 (Within n.value.statement.now res)) ⊛ raw (fact 𝓤 (Refused n.value.statement.now res)) ⊛ raw (fact 𝓤 (Never n.value.statement.now res)) ⊛ raw (fact 𝓤 (Nothing res ls.1.1.1.1.1.0))))))) (id⊢ 𝓤 (k.post y u)) $
    await ! tt $ pick ! (λ res. split ! $ move ! (1 ∷ []) $ pick ! (λ ls. split ! $ move ! (1 ∷ []) $ split ! $ heard ! (Kept ls.0) (λ same. split ! $ heard ! (Finds n.value.statement.now res ls.1.1.1.1.1.0) (λ is_finds. split ! $ heard ! (Within n.value.statement.now res) (λ is_within. split ! $ heard ! (Refused n.value.statement.now res) (λ is_refused. split ! $ heard ! (Never n.value.statement.now res) (λ is_never. heard ! (Nothing res ls.1.1.1.1.1.0) (λ is_nothing.
    fsplit ! $ fsplit ! $ move ! (1 ∷ 2 ∷ []) $ drop ! $ fsplit3 ! $ drop ! $ drop ! $ fsplit3 ! $ drop ! $ drop ! $ fsplit ! $ move ! (1 ∷ []) $ drop ! $
    -- [what is left of found; the loan's last value; the tokens and the result; self's cell; what is kept; self's open borrow, in three; its address]
    move ! (2 ∷ 1 ∷ []) $ split ! $ split ! $ move ! (1 ∷ []) $ split3 ! $ move ! (2 ∷ []) $ split ! $
    -- [found's token; nothing; half of the lifetime's token; the text's token; the loan's token; the result; the loan's last value; what is left of found; self's cell; what is kept; self's open borrow, in three; its address]
    move ! (8 ∷ 6 ∷ 4 ∷ 2 ∷ 9 ∷ 10 ∷ 11 ∷ 12 ∷ []) $ takes_ready ! tt h mb mo n ls.0 same $
    -- [self in two; its token; found's token; nothing; the text's token; the result; what is left of found; self's address]
    move ! (6 ∷ []) $ peeks ! Out (Is Out) (shows 𝓛 Out) res (u ∷ []) (λ isr.
    let good : Holds (has_ty (layout Out) u) × WT u = ((LOut.lawful 𝓛).typed res (u ∷ []) isr).0 in
    lands_last ! refl good $ exec ! 𝓣.C 𝓣.Λ Ev (after 3 fn.body) (at_ret Ev Post) $ sets ! (of_opd ! (get ! refl)) refl good $
    returns ! (look_at ! 0 refl) $ free_all ! refl $
    -- [the result; self in two; its token; found's token; nothing; the text's token; what is left of found; self's address]
    move ! (8 ∷ 1 ∷ 2 ∷ []) $ fjoin3 ! $ nothing ! $ move ! (7 ∷ 0 ∷ []) $ fjoin ! $ nothing ! $ fjoin ! $ nothing ! $ fjoin ! $ nothing ! $ fjoin ! $ nothing ! $ fjoin ! $ move ! (1 ∷ 0 ∷ []) $ fjoin ! $
    -- [the parameters; the result; self's token; found's token; nothing; the text's token]
    move ! (3 ∷ 4 ∷ []) $ join ! $ move ! (4 ∷ 0 ∷ []) $ join ! $ move ! (3 ∷ 0 ∷ []) $ join ! $
    use0 𝓛 (raw (fact 𝓤 (Nothing res ls.1.1.1.1.1.0))) (fact_i 𝓤 (Nothing res ls.1.1.1.1.1.0) (emp 𝓤) is_nothing) $
    use0 𝓛 (raw (fact 𝓤 (Never x res))) (fact_i 𝓤 (Never x res) (emp 𝓤) (subst (λ (g : Statement). Never g res) n.same is_never)) $ join ! $
    use0 𝓛 (raw (fact 𝓤 (Refused x res))) (fact_i 𝓤 (Refused x res) (emp 𝓤) (subst (λ (g : Statement). Refused g res) n.same is_refused)) $ join ! $
    use0 𝓛 (raw (fact 𝓤 (Within x res))) (fact_i 𝓤 (Within x res) (emp 𝓤) (subst (λ (g : Statement). Within g res) n.same is_within)) $ join ! $
    use0 𝓛 (raw (fact 𝓤 (Finds x res ls.1.1.1.1.1.0))) (fact_i 𝓤 (Finds x res ls.1.1.1.1.1.0) (emp 𝓤) (subst (λ (g : Statement). Finds g res ls.1.1.1.1.1.0) n.same is_finds)) $ join ! $
    use0 𝓛 (raw (fact 𝓤 (x ≡ x))) (fact_i 𝓤 (x ≡ x) (emp 𝓤) refl) $ join ! $
    move ! (1 ∷ 2 ∷ 3 ∷ 0 ∷ []) $ by ! (leaves 𝓛 ended hs c z u res (h, (_, (_, (_, (_, (ls.1.1.1.1.1.0, tt)))))) (tt, (tt, (tt, (tt, (tt, (tt, tt))))))))))))))))))))))
