-- A batch is added to lines that are sealed.
use Rattle.std.proofs.Common.{◌≡◌, refl, sym, ◌∙◌, ap, arith, subst, ℕ, ◌+◌, ◌<◌, ◌≤◌, ◌^◌, max, Bool, true, false, IsTrue, List, [], ◌∷◌, ◌++◌, length, take, decimal, length-append}
use Rattle.std.proofs.lemmas.List.{append-nil}
use Rattle.sqlite_disk.specs.declared.Disk.{Ghosts}
use Rattle.sno_store.specs.declared.faults.StoreFault.{StoreFault}
use Rattle.sno_store.specs.declared.faults.StoreFault.TheVariants.{Closed, Unsupported, TooLong, Memory, NoRoom, Read, Write, Sync}
use Rattle.sno_store.specs.Faults.{IsPutFault}
use Rattle.sno_store.specs.Lines.{bytes_of, recovered}
use Rattle.sno_store.specs.Store.{HasFirst}
use Rattle.sno_store.proofs.Scans.{within}
use Rattle.sno_sealed.specs.declared.chain.Chain.{Chain}
use Rattle.sno_sealed.specs.Batches.{IsBatchFault, batch_sum, sealed_batch, sealed_sum}
use Rattle.sno_sealed.specs.Chains.{IsChain}
use Rattle.sno_sealed.specs.Sealed.{HoldsFirst}
use Rattle.sno_sealed.proofs.ChainLemmas.{first_sealed, lines_more, same_count}
use Rattle.sno_sealed.proofs.LineLemmas.{fewer}

pub lines_within : (file : List ℕ) → length (recovered file) ≤ length file
lines_within file = omega (arith, fewer (recovered file), within file (length (bytes_of (recovered file))) refl)

pub batch_fits : (before count : ℕ) (news : List (List ℕ)) → length news ≤ length (bytes_of (sealed_batch before count news))
batch_fits before count news =
    omega (arith, fewer (sealed_batch before count news), same_count before count (decimal (count + 1)) (decimal (count + length news)) news)

module _ (lines news olds : List (List ℕ)) (chain : Chain) (holds : IsChain lines olds chain) where
  pub left : (sealed : List (List ℕ)) (file : List ℕ) → sealed ≡ sealed_batch chain.sum chain.lines news → HasFirst lines sealed file → HoldsFirst olds news file
  left sealed file is first =
      let f = decimal (chain.lines + 1) in
      let t = decimal (chain.lines + length news) in
      let k = first.0 in
      let end : Chain = record { sum = sealed_sum chain.sum chain.lines f t (take k news); lines = chain.lines + length (take k news); plain = chain.plain } in (
        k,
        end,
        subst (λ (ls : List (List ℕ)). IsChain ls (olds ++ take k news) end)
            (sym (first.1 ∙ ap (λ (ss : List (List ℕ)). lines ++ take k ss) is ∙ ap (λ (ss : List (List ℕ)). lines ++ ss) (first_sealed chain.sum chain.lines f t k news)))
            (lines_more lines olds chain f t (take k news) holds),
      )

  pub none_left : (file : List ℕ) → recovered file ≡ lines → HoldsFirst olds news file
  none_left file is =
      (0, chain, subst (λ (ps : List (List ℕ)). IsChain (recovered file) ps chain) (sym (append-nil olds)) (subst (λ (ls : List (List ℕ)). IsChain ls olds chain) (sym is) holds))

  pub added : (sealed now : List (List ℕ)) (end : Chain) → sealed ≡ sealed_batch chain.sum chain.lines news → now ≡ lines ++ sealed
      → end ≡ record { sum = batch_sum chain.sum chain.lines news; lines = chain.lines + length news; plain = chain.plain }
      → IsChain now (olds ++ news) end
  added sealed now end is more come =
      let f = decimal (chain.lines + 1) in
      let t = decimal (chain.lines + length news) in
      subst (λ (ch : Chain). IsChain now (olds ++ news) ch) (sym come)
      (subst (λ (ls : List (List ℕ)). IsChain ls (olds ++ news) (record { sum = batch_sum chain.sum chain.lines news; lines = chain.lines + length news; plain = chain.plain }))
      (sym (more ∙ ap (λ (ss : List (List ℕ)). lines ++ ss) is)) (lines_more lines olds chain f t news holds))

pub counted_more : (lines sealed now news : List (List ℕ)) (chain end : Chain) → length lines ≡ chain.lines → sealed ≡ sealed_batch chain.sum chain.lines news → now ≡ lines ++ sealed
    → end ≡ record { sum = batch_sum chain.sum chain.lines news; lines = chain.lines + length news; plain = chain.plain } → length now ≡ end.lines
counted_more lines sealed now news chain end count is more come =
    ap length more ∙ length-append lines sealed
    ∙ omega (arith, count, ap length is, same_count chain.sum chain.lines (decimal (chain.lines + 1)) (decimal (chain.lines + length news)) news) ∙ sym (ap (λ (ch : Chain). ch.lines) come)

module _ {D : Type 0} (g : Ghosts D) where
  pub batch_fault : (was_open : Bool) (n last : ℕ) (old : D) (fault : StoreFault) → (IsTrue (g.is_clean old) → last ≤ length (g.seen old) + n) → IsBatchFault last fault
      → IsPutFault g was_open n old old fault
  batch_fault was_open n last old Closed short is = absurd is
  batch_fault was_open n last old Unsupported short is = absurd is
  batch_fault was_open n last old TooLong short is = λ clean. grind (arith, short clean, is)
  batch_fault was_open n last old Memory short is = tt
  batch_fault was_open n last old NoRoom short is = absurd is
  batch_fault was_open n last old (Read e) short is = absurd is
  batch_fault was_open n last old (Write e) short is = absurd is
  batch_fault was_open n last old (Sync e) short is = absurd is
