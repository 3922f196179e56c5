-- `replaced` lends what is ready, and has it back.
use Rattle.std.proofs.Common.{◌≡◌, ℕ, ◌<◌, ◌^◌, List, [], ◌∷◌, ◌++◌, refl, sym, subst, w32}
use lib.Dec.{T as Holds}
use mir.Syntax.{named}
use mir.Val.{Val, WT, has_ty, vptr, vint}
use base.Logic.{SProp, ent, emp, id⊢}
use base.Fml.{Lft, Share, ftrue, flft}
use prog.Wp.{WpFn}
use types.Kit.{‵, raw, ◌⊛◌, some, later, ◌$◌, ◌∵◌, !, qed, by, move, keep, drop, split, split3, join, fsplit, fsplit3, fjoin, fjoin3, pick, rewrite, suffices, use0, use1, await, at_ret}
use types.Run.{stop, fld, load, addr, of_opd, no_more, and_then, returns, enter, first, blocks, exec}
use types.ByLocal.{alloc_all, pass_all, free_all, look_at, get, through, sets, lands_last, env}
use types.Part.{sub, whole, look_in}
use contract.Monad.{fact, fact_i}
use contract.Running.{tables}
use denote.Builtin.{RefOf, u32}
use denote.Exit.{yes}
use denote.Laws.{Is, shows}
use denote.Param.{layout}
use denote.Plain.{uint_Tells}
use denote.Ref.{ShrRef}
use denote.RattleType.{RattleType, owns}
use denote.Signature.{types_at, plain}
use denote.Steps.{nothing, heard, peeks}
use denote.Triple.Clauses.{Lasts, lasts}
use denote.Triple.Spec.{triple_of}
use denote.Triple.Call.{calls_at_last}
use denote.Triple.Walked.{Stays, stay_dropped, stay_ref, walk_of, Goes-dropped, Goes-ref}
use denote.Triple.Table.{framed}
use Rattle.std.specs.Prelude.{IfOk}
use Rattle.std.specs.contracts.result.Result as result
use Rattle.std.proofs.result.Result.TheLaws as result_laws
use Rattle.std_alloc.proofs.VecSteps.Shapes.{after}
use Rattle.std.proofs.alloc.Calls.{handle_tells}
use Rattle.std.proofs.raw_atomic.Walks.{proved_at, leaves}
use Rattle.sno_pattern.specs.declared.byte_texts.TheConstants.{MAX_BYTES}
use Rattle.sno_statement.specs.Perform.{perform_within}
use Rattle.sno_statement.specs.Rewriting.{GivesRewritten, rewriting}
use Rattle.sno_statement.specs.contracts.rewriting.Rewritten as rewritten
use Rattle.sno_statement.proofs.rewriting.Rewritten.TheLaws as rewritten_laws
use Rattle.sno_pattern.specs.contracts.byte_texts.ByteText.{the_row as X}
use Rattle.sno_statement.specs.Statement.{Statement, with_limit}
use Rattle.sno_statement.specs.contracts.file_faults.FileStatementFault as fault
use Rattle.sno_statement.proofs.file_faults.FileStatementFault.TheLaws as fault_laws
use Rattle.sno_compiled.proofs.Heap.{global}
use Rattle.sno_compiled.proofs.Loans.{lends_ready, takes_ready, lent_for, loaned_for, lent_share, loaned_share, within, loan, word}
use Rattle.sno_compiled.specs.declared.ready.Ready.{Ready}
use Rattle.sno_compiled.specs.contracts.tied.Tied.{the_row as T}
use Rattle.sno_compiled.specs.contracts.ready.Ready.replaced as callee
use Rattle.sno_compiled.proofs.ready.Ready.replaced.Met.{met}
use Rattle.sno_compiled.specs.contracts.tied.Tied.replaced.{ended, clauses}
use Rattle.sno_compiled.specs.contracts.tied.Tied.replaced.Key.{name as #self}
use Rattle.sno_compiled.proofs.tied.Tied.replaced.Statement.{statement}
use Rattle.sno_compiled.proofs.tied.Tied.replaced.Code as code

pub replaced_spec : {M : Type 1} → statement M
replaced_spec 𝓤 𝓛 𝓜 𝓡 wired =
    let H = 𝓛.H in let 𝓣 = tables 𝓤 H 𝓜 𝓡 𝓡.env in let c = clauses 𝓛 𝓜.mem 𝓡.returns in let Z : RattleType = global.row in let fn = code.function in
    let Out : RattleType = result.the_row rewritten.the_row fault.the_row in let LOut = result_laws.the_row_laws rewritten.the_row fault.the_row rewritten_laws.the_row_laws fault_laws.the_row_laws in
    let text = RefOf (1 ∷ []) tt (plain (λ _. X)) (λ _. tt) in
    let hs : Stays ended.signature.params ended.kept = (stay_ref (0 ∷ []) tt (plain (λ _. T)), (stay_dropped (plain (λ _. Z)) yes, (stay_dropped text yes, (stay_dropped (plain (λ _. u32)) yes, tt)))) in
    proved_at 𝓛 ended hs c 𝓜 𝓡 (Goes-ref 𝓛 2 0 tt (plain (λ _. T)), (Goes-dropped 𝓛 2 (plain (λ _. Z)) yes (λ κs x f. refl), (Goes-dropped 𝓛 2 text yes (λ κs x f. refl), (Goes-dropped 𝓛 2 (plain (λ _. u32)) yes (λ κs x f. refl), tt))))
    #self fn (code.unfolded 𝓤 H 𝓜 𝓡 wired) (λ z are.
    let κ : Lft = z.0.0.0 in let q : Share = z.0.1.0 in let μ : Lft = z.0.0.1.0 in let r : Share = z.0.1.1.0 in let Post : Val → SProp 𝓤 = (walk_of 𝓛 ended hs c).post z in let Run : List Val → SProp 𝓤 = λ ws. WpFn 𝓤 H 𝓣.C 𝓣.Λ fn ws Post in
    let me = z.0.3.0 in let h : T.Denot = me.now in let x : Statement = h.value in let mb : ℕ = me.ref_ptr.0 in let mo : ℕ = me.ref_ptr.1 in let a = z.0.3.1.0 in let t = z.0.3.1.1.0 in let trials : ℕ = z.0.3.1.1.1.0 in
    let tv : Val = vptr t.ref_ptr.0 t.ref_ptr.1 in
    let says_trials = uint_Tells w32 trials z.0.4.1.1.1.0 are.1.1.1.0 in
    qed 𝓛 (((‵ (flft κ q) ⊛ ‵ (flft μ r) ⊛ ‵ ftrue) ⊛ ‵ (owns (types_at ended.signature.params z.0.0) z.0.3 z.0.4)) ∷ raw ((c z.0.0 z.0.3).requires z.1) ∷ []) ∵
    split ! $ split3 ! $ move ! (3 ∷ []) $ fsplit3 ! $ move ! (2 ∷ []) $ fsplit3 ! $
    rewrite ! 1 (λ (vs : List Val). ‵ (u32.own_val trials vs)) says_trials refl $ rewrite ! 0 (λ (vs : List Val). ‵ ((ShrRef (named 1) μ X).own_val t vs)) are.1.1.0.0 refl $
    move ! (4 ∷ []) $ handle_tells global ! a z.0.4.1.0 (λ hv eh fits.
    let us : List Val = vptr mb mo ∷ hv ∷ tv ∷ vint w32 trials ∷ [] in
    suffices ! (Run us) (subst (λ (vs : List Val). ent 𝓤 (Run us) (Run vs)) (sym (λ i. are.0.0 i ++ (eh i ++ (are.1.1.0.0 i ++ (says_trials i ++ []))))) (id⊢ 𝓤 (Run us))) $
    -- [self; its token; the text's token; the handle; the text; trials]
    keep ! (4 ∷ 5 ∷ 6 ∷ 0 ∷ 1 ∷ 2 ∷ []) $ enter ! 𝓣.C 𝓣.Λ fn us Post $
    alloc_all ! (λ l. pass_all ! refl ((tt, tt), (fits, ((tt, tt), ((tt, record { fits = are.1.1.1.0.1 }), tt)))) $ let Ev = env fn.locals l in
    fsplit3 ! $ move ! (1 ∷ 2 ∷ 3 ∷ []) $ lends_ready ! tt h mb mo (λ n. let ρ : Lft = lent_for n in let ν : Lft = loaned_for n in
    -- [the loan; self's cell; the loan's token; half of the lifetime's; what is kept; self's open borrow, in three; its address; the text's token; the handle; the text; trials]
    sets ! (of_opd ! (load ! (through ! refl (fld ! refl (stop !))) (look_in ! 1 (sub ! 1 refl (whole !))))) refl (tt, tt) $ sets ! (of_opd ! (get ! refl)) refl (tt, tt) $
    first ! $ blocks ! $ sets ! (addr ! (through ! refl (stop !))) refl (tt, tt) $
    let k = triple_of 𝓛 callee.signature (callee.spec 𝓛 𝓜.mem 𝓡.returns) in
    let y : k.Ghost = (((ν, (ρ, (μ, tt))), (loaned_share n, (lent_share n, (r, tt))), (within n, tt), (loan n, (a, (t, (trials, tt)))), (word n ∷ [], (hv ∷ [], (tv ∷ [], (vint w32 trials ∷ [], tt))))), tt) in
    nothing ! $ move ! (13 ∷ 0 ∷ []) $ fjoin ! $ move ! (12 ∷ 0 ∷ []) $ fjoin ! $ move ! (11 ∷ 0 ∷ []) $ fjoin ! $ move ! (1 ∷ 0 ∷ []) $ fjoin ! $
    nothing ! $ move ! (10 ∷ 0 ∷ []) $ join ! $ move ! (4 ∷ 0 ∷ []) $ join ! $ move ! (3 ∷ 0 ∷ []) $ join ! $ join ! $
    nothing ! $ move ! (1 ∷ 0 ∷ []) $ join ! $ use1 𝓛 (raw (k.pre y)) (id⊢ 𝓤 _) $
    -- [the call; self's cell; what is kept; self's open borrow, in three; its address]
    calls_at_last ! (framed 𝓤 H 𝓜 𝓣) k (met 𝓤 𝓛 𝓜 𝓡 (code.calls-sno_compiled::ready::Ready::replaced 𝓡.env wired)) y
    (and_then ! (get ! refl) (and_then ! (get ! refl) (and_then ! (get ! refl) (and_then ! (get ! refl) (no_more !))))) (λ u.
    let Kept : Ready → Type 0 = λ w. w.statement.now ≡ n.value.statement.now in
    let Gives : Statement → Out.Denot → Type 0 = λ g res. GivesRewritten res (rewriting (perform_within MAX_BYTES (with_limit g trials) t.now)) in let Few : Statement → Out.Denot → Type 0 = λ g res. IfOk res (λ w. w.matches < 2 ^ 32) in
    use1 𝓛 (later (some (λ (res : Out.Denot). ((‵ (flft ν (loaned_share n)) ⊛ ‵ (flft ρ (lent_share n)) ⊛ ‵ (flft μ r) ⊛ ‵ ftrue) ⊛ ‵ (Out.own_val res (u ∷ [])))
    ⊛ some (λ (ls : Lasts callee.ended y.0.0 y.0.3). ‵ (lasts callee.ended y.0.0 y.0.3 ls) ⊛ (raw (fact 𝓤 (Kept ls.0)) ⊛ raw (fact 𝓤 (Gives n.value.statement.now res)) ⊛ raw (fact 𝓤 (Few n.value.statement.now res))))))) (id⊢ 𝓤 (k.post y u)) $
    await ! tt $ pick ! (λ res. split ! $ move ! (1 ∷ []) $ pick ! (λ ls. split ! $ move ! (1 ∷ []) $ split ! $ heard ! (Kept ls.0) (λ same. split ! $ heard ! (Gives n.value.statement.now res) (λ is_gives. heard ! (Few n.value.statement.now res) (λ is_few.
    fsplit ! $ fsplit ! $ move ! (1 ∷ 2 ∷ []) $ drop ! $ drop ! $ move ! (1 ∷ []) $ split ! $ split ! $ move ! (1 ∷ []) $ split3 ! $
    -- [half of the lifetime's token; the text's token; nothing; the loan's token; the result; the loan's last value; self's cell; what is kept; self's open borrow, in three; its address]
    move ! (6 ∷ 5 ∷ 3 ∷ 0 ∷ 7 ∷ 8 ∷ 9 ∷ 10 ∷ []) $ takes_ready ! tt h mb mo n ls.0 same $
    -- [self in two; its token; the text's token; nothing; the result; self's address]
    move ! (5 ∷ []) $ peeks ! Out (Is Out) (shows 𝓛 Out) res (u ∷ []) (λ isr.
    let good : Holds (has_ty (layout Out) u) × WT u = ((LOut.lawful 𝓛).typed res (u ∷ []) isr).0 in
    lands_last ! refl good $ exec ! 𝓣.C 𝓣.Λ Ev (after 3 fn.body) (at_ret Ev Post) $ sets ! (of_opd ! (get ! refl)) refl good $
    returns ! (look_at ! 0 refl) $ free_all ! refl $
    -- [the result; self in two; its token; the text's token; nothing; self's address]
    move ! (6 ∷ 1 ∷ 2 ∷ []) $ fjoin3 ! $ nothing ! $ nothing ! $ fjoin ! $ nothing ! $ fjoin ! $ nothing ! $ fjoin ! $ move ! (1 ∷ 0 ∷ []) $ fjoin ! $
    -- [the parameters; the result; self's token; the text's token; nothing]
    move ! (3 ∷ 4 ∷ []) $ join ! $ move ! (3 ∷ 0 ∷ []) $ join ! $
    use0 𝓛 (raw (fact 𝓤 (Few x res))) (fact_i 𝓤 (Few x res) (emp 𝓤) (subst (λ (g : Statement). Few g res) n.same is_few)) $
    use0 𝓛 (raw (fact 𝓤 (Gives x res))) (fact_i 𝓤 (Gives x res) (emp 𝓤) (subst (λ (g : Statement). Gives g res) n.same is_gives)) $ join ! $
    use0 𝓛 (raw (fact 𝓤 (x ≡ x))) (fact_i 𝓤 (x ≡ x) (emp 𝓤) refl) $ join ! $
    move ! (1 ∷ 2 ∷ 3 ∷ 0 ∷ []) $ by ! (leaves 𝓛 ended hs c z u res (h, (_, (_, (_, tt)))) (tt, (tt, (tt, (tt, tt))))))))))))))))
