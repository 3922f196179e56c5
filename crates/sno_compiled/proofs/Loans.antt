-- What is ready is lent behind a `&mut` to a `Tied`, for one call, and comes back. Assumes `Logic`.
--     Loan               where all lies, the lifetimes, and what is ready now
--     lends_ready        [a `&mut` to a `Tied`, by its two parts; its token]  becomes  [a `&mut` to what is ready; the `Tied` in memory; the tokens of the loan; what is kept]
--     takes_ready        [the `Tied` in memory; the last value of the loan; its tokens; what is kept]  becomes  [the `&mut`, by its two parts; its token]
use Rattle.std.proofs.Common.{◌≡◌, ℕ, List, [], ◌∷◌, refl, sym, subst, ◌∙◌}
use seplogic.Ra.Ura.{Ura}
use mir.Raw.{raw as bare}
use mir.Syntax.{named}
use mir.Val.{Val, vptr}
use base.Fraction.{full_share}
use base.FractionLaws.{common}
use base.Share.{left, right}
use base.Logic.{sep, never, id⊢, fst∗, apply∗}
use base.Fml.{Fml, Lft, Share, fsep, fwand, flft, flent, fdead, fres, fobs, fauth, fbor, fobor}
use base.Stored.{Gv}
use types.Logic.{Logic, sem}
use types.Kit.{Item, Goal, Soaks, Seq, Step, step, ‵, ◌⊛◌, some, later, ◌$◌, move, split, fsplit, fsplit3, fjoin, fpick, fpack, pick, rewrite, use1, use2, use3, await, feq_l, feq_i}
use types.SemTy.{Body}
use types.Tokens.{lft_new, lft_end, lft-common}
use contract.BorrowLft.{◌⊑◌, meet_⊑_left, meet_⊑_right}
use denote.Lend.{lends_ref, ref_back}
use denote.Memory.{cell_at, part_at, mem, lone}
use denote.Param.{layout}
use denote.Ref.{MutBor, MutRef}
use denote.RattleType.{RattleType}
use denote.RawPtr.{Ptr, block_ptr, null_ptr, ptr_val, in_a_block, lies_at}
use denote.Steps.{opens, closes}
use Rattle.std.specs.Box.Ownership.{box_owns}
use Rattle.sno_compiled.specs.Blocks.{chunk}
use Rattle.sno_compiled.specs.Owned.{tied_at, life_owns, ready_owns, ready_row}
use Rattle.sno_compiled.specs.declared.ready.Ready.{Ready}
use Rattle.sno_statement.specs.Statement.{Statement}
use Rattle.sno_statement.specs.contracts.file_statements.FileStatement.{the_row as S}
use Rattle.sno_compiled.specs.contracts.tied.Tied.{the_row as T}
use Rattle.sno_compiled.proofs.Values.{two, tied_in, tied_out}

-- the lifetime for which the statement is lent, that of the loan, the loan's name, the two blocks, and what is ready
pub record Loan (h : T.Denot) : Type 0 where
  pub life : ℕ
  pub fresh : ℕ
  pub name : ℕ
  pub sb : ℕ
  pub so : ℕ
  pub rb : ℕ
  pub ro : ℕ
  pub value : Ready
  pub same : value.statement.now ≡ h.value
  pub statement_at : h.statement ≡ block_ptr sb so
  pub ready_at : h.ready ≡ block_ptr rb ro

module _ {h : T.Denot} (n : Loan h) where
  -- the two lifetimes, and the shares of their tokens that a call is given
  abbrev pub lent_for : Lft
  lent_for = n.life ∷ []

  abbrev pub loaned_for : Lft
  loaned_for = n.fresh ∷ n.life ∷ []

  abbrev pub lent_share : Share
  lent_share = left full_share

  abbrev pub loaned_share : Share
  loaned_share = (common full_share (right full_share)).0

  pub within : loaned_for ⊑ lent_for
  within = meet_⊑_right (n.fresh ∷ []) lent_for

  abbrev pub row : RattleType
  row = ready_row n.life

  abbrev pub word : Val
  word = vptr n.rb n.ro

  -- the `&mut` to what is ready
  abbrev pub loan : MutBor Ready
  loan = record { ref_ptr = (n.rb, n.ro); ghost_name = n.name; now = n.value }

  abbrev pub loan_owns : Fml
  loan_owns = (MutRef (named 0) loaned_for row).own_val loan (word ∷ [])

  abbrev pub tied_lies : ℕ → ℕ → Fml
  tied_lies mb mo = cell_at full_share T.mir (two (vptr n.sb n.so) word ∷ []) mb mo

  abbrev pub way_back : Fml
  way_back = fwand (flft loaned_for loaned_share) (fsep (flft (n.fresh ∷ []) full_share) (flft lent_for (right full_share)))

  abbrev pub statement_owns : Fml
  statement_owns = fsep (flent lent_for (lies_at S full_share (block_ptr n.sb n.so) h.value)) (chunk (bare (lone S.mir)) (block_ptr n.sb n.so))

  abbrev pub open_owns : Lft → Share → ℕ → ℕ → ℕ → Gv → Gv → Fml
  open_owns κ q γ mb mo u w = fsep (fobor κ q (Body (mem T) mb mo γ)) (fsep (fobs γ u) (fauth γ w))

  -- what is kept while the loan stands
  abbrev pub kept : Fml
  kept = fsep (flent loaned_for (Body (mem row) n.rb n.ro n.name)) (fsep way_back (fsep (chunk (bare (lone row.mir)) (block_ptr n.rb n.ro)) statement_owns))

module _ {M : Type 1} {𝓤 : Ura M} {𝓛 : Logic 𝓤} {K : Type 0} {Γ : List (Item 𝓤)} {G : Goal 𝓤 𝓛.H} where
  open 𝓛 use {A}

  pub lends_ready : K → Soaks G → {κ : Lft} {q : Share} {γ : ℕ} (h : T.Denot) (mb mo : ℕ)
      → ((n : Loan h) → Seq K 𝓛 (‵ (loan_owns n) ∷ ‵ (tied_lies n mb mo) ∷ ‵ (flft (loaned_for n) (loaned_share n)) ∷ ‵ (flft (lent_for n) (lent_share n)) ∷ ‵ (kept n)
      ∷ ‵ (fobor κ q (Body (mem T) mb mo γ)) ∷ ‵ (fobs γ (T.coded.code h)) ∷ ‵ (fauth γ (T.coded.code h)) ∷ Γ) G)
      → Seq K 𝓛 (‵ (fobs γ (T.coded.code h)) ∷ ‵ (fbor κ (Body (mem T) mb mo γ)) ∷ ‵ (flft κ q) ∷ Γ) G
  lends_ready t z {κ} {q} {γ} h mb mo k =
      opens t z T {h = h} mb mo (λ ws. move t (1 ∷ []) $ tied_out t h ws (λ es.
      in_a_block t h.statement (λ p. tied_at p h.ready h.value) (id⊢ 𝓤 _) (λ sb so sat. fpick t (λ α. let ρ : Lft = α ∷ [] in let R : RattleType = ready_row α in
      fsplit3 t $ move t (2 ∷ []) $ fpick t (λ v. fsplit t $ feq_l t (λ same.
      in_a_block t h.ready (λ p. box_owns chunk R p v) (fst∗ 𝓤 (never 𝓤) (sem 𝓛 (chunk (bare (layout R)) null_ptr))) (λ rb ro rat. fsplit t $
      -- [what is ready; its right to free; the token; the statement, lent; the cell; the open borrow, in three]
      rewrite t 4 (λ (vs : List Val). ‵ (cell_at full_share T.mir vs mb mo)) (subst (λ (ps : Ptr × Ptr). ws ≡ two (ptr_val ps.0) (ptr_val ps.1) ∷ []) (λ i. (sat i, rat i)) es) refl $
      move t (2 ∷ []) $ use1 𝓛 (‵ (flft ρ (left full_share)) ⊛ ‵ (flft ρ (right full_share))) (𝓛.lfts.lft_split ρ full_share) $ split t $
      lft_new t z (λ β. let β' : Lft = β ∷ [] in let ν : Lft = β ∷ α ∷ [] in let e : Share = (common full_share (right full_share)).0 in
      move t (0 ∷ 2 ∷ []) $ use2 𝓛 (‵ (flft ν e) ⊛ ‵ (fwand (flft ν e) (fsep (flft β' full_share) (flft ρ (right full_share))))) (lft-common 𝓛 β' ρ full_share (right full_share)) $ split t $
      move t (3 ∷ []) $ use1 𝓛 (later (some (λ (δ : ℕ). ‵ ((MutRef (named 0) ν R).own_val (record { ref_ptr = (rb, ro); ghost_name = δ; now = v }) (vptr rb ro ∷ [])) ⊛ ‵ (flent ν (Body (mem R) rb ro δ))))) (lends_ref 𝓛 R (named 0) ν v rb ro) $
      await t z $ pick t (λ δ. split t $
      let n : Loan h = record { life = α; fresh = β; name = δ; sb = sb; so = so; rb = rb; ro = ro; value = v; same = same; statement_at = sat; ready_at = rat } in
      -- [the loan; what the lender keeps; the loan's token; the way back; half the token; the right to free; the statement, lent; the cell; the open borrow, in three]
      move t (5 ∷ 6 ∷ []) $ fjoin t $ move t (4 ∷ 0 ∷ []) $ fjoin t $ move t (2 ∷ 0 ∷ []) $ fjoin t $ move t (1 ∷ 4 ∷ 2 ∷ 3 ∷ 0 ∷ []) $ k n)))))))))

  pub takes_ready : K → Soaks G → {κ : Lft} {q : Share} {γ : ℕ} {u w : Gv} (h : T.Denot) (mb mo : ℕ) (n : Loan h) (y : Ready) → y.statement.now ≡ n.value.statement.now
      → Step K 𝓛 (‵ (fobs γ (T.coded.code h)) ∷ ‵ (fbor κ (Body (mem T) mb mo γ)) ∷ ‵ (flft κ q) ∷ Γ) G
      (‵ (tied_lies n mb mo) ∷ ‵ (fres n.name ((row n).coded.code y)) ∷ ‵ (flft (loaned_for n) (loaned_share n)) ∷ ‵ (flft (lent_for n) (lent_share n)) ∷ ‵ (kept n)
      ∷ ‵ (fobor κ q (Body (mem T) mb mo γ)) ∷ ‵ (fobs γ u) ∷ ‵ (fauth γ w) ∷ Γ) G
  takes_ready t z {κ} {q} {γ} h mb mo n y is = step (λ s.
      let ρ : Lft = lent_for n in let ν : Lft = loaned_for n in let β' : Lft = n.fresh ∷ [] in let sp : Ptr = block_ptr n.sb n.so in let rp : Ptr = block_ptr n.rb n.ro in let vs : List Val = two (ptr_val h.statement) (ptr_val h.ready) ∷ [] in
      move t (4 ∷ []) $ fsplit3 t $ move t (2 ∷ []) $ fsplit t $
      -- [the right to free; the statement, lent; what the lender keeps; the way back; the cell; the last value; the loan's token; half the token; the open borrow, in three]
      move t (6 ∷ 3 ∷ []) $ use2 𝓛 (‵ (flft β' full_share) ⊛ ‵ (flft ρ (right full_share))) (apply∗ 𝓤 (A.lft ν (loaned_share n)) (sep 𝓤 (A.lft β' full_share) (A.lft ρ (right full_share)))) $ split t $
      move t (7 ∷ 1 ∷ []) $ use2 𝓛 (‵ (flft ρ full_share)) (𝓛.lfts.lft_join ρ full_share) $ move t (1 ∷ []) $ lft_end t z $
      use1 𝓛 (‵ (fdead ν)) (𝓛.lfts.dead-incl ν β' (meet_⊑_left β' ρ)) $
      -- [the loan is over; the token; the right to free; the statement, lent; what the lender keeps; the cell; the last value; the open borrow, in three]
      move t (0 ∷ 4 ∷ 6 ∷ []) $ use3 𝓛 (later (‵ (part_at (row n) full_share y n.rb n.ro))) (ref_back 𝓛 (row n) ν n.name y n.rb n.ro) $ await t z $
      move t (0 ∷ 2 ∷ []) $ fjoin t $ feq_i t Statement y.statement.now h.value (is ∙ n.same) $ fjoin t $ fpack t Ready (ready_owns sp rp h.value n.life) y $
      -- [what is ready; the token; the statement, lent; the cell; the open borrow, in three]
      move t (2 ∷ 0 ∷ []) $ fjoin t $ move t (1 ∷ 0 ∷ []) $ fjoin t $ fpack t ℕ (life_owns sp rp h.value) n.life $
      rewrite t 0 (λ (ps : Ptr × Ptr). ‵ (tied_at ps.0 ps.1 h.value)) (λ i. (sym n.statement_at i, sym n.ready_at i)) refl $ tied_in t h.statement h.ready h.value $
      rewrite t 1 (λ (ps : Ptr × Ptr). ‵ (cell_at full_share T.mir (two (ptr_val ps.0) (ptr_val ps.1) ∷ []) mb mo)) (λ i. (sym n.statement_at i, sym n.ready_at i)) refl $
      move t (1 ∷ 0 ∷ []) $ closes t z T h vs mb mo $ s)
