-- Faults of a run.
use Rattle.std.proofs.Common.{◌≡◌, ◌≢◌, inl, inr, ℕ, List, Option, Some, None, Result, Ok, Err, IsErrAnd, IfErr, refl, sym, subst}
use Rattle.sno_document.specs.Document.{Document, IsDocument}
use Rattle.sno_document.specs.declared.faults.DocumentFault.{DocumentFault}
use Rattle.sno_document.specs.declared.faults.DocumentFault.TheVariants as document
use Rattle.sno_document.specs.declared.modes.Mode.{Mode}
use Rattle.sno_document.proofs.DocumentLaw.{one_result}
use Rattle.sno_rewrite.specs.Faults.{IsFirstFault, run_fault}
use Rattle.sno_rewrite.specs.Runs.{FailsBy, FailsShared, IsOwn}
use Rattle.sno_rewrite.specs.declared.faults.RunFault.{RunFault}
use Rattle.sno_rewrite.specs.declared.faults.RunFault.TheVariants as run

-- the exit of a `?`
err_of : {X : Type 0} (P : RunFault → Type 0) (result : Result X RunFault) (e : RunFault) → IsErrAnd result (λ f. f ≡ e) → P e → IfErr result P
err_of P (Ok x) e is h = absurd is
err_of P (Err f) e is h = subst P (sym is) h

-- a document has no first fault
never_first : (mode : Mode) (bytes : List ℕ) (e : RunFault) (d : Document) → IsDocument mode bytes (Ok d) → IsFirstFault mode bytes e → ⊥
never_first mode bytes (run.Document e) d found h = let both = one_result mode bytes _ _ h found in cc
never_first mode bytes e d found h = absurd h

module _ (mode : Mode) (bytes : List ℕ) where
  -- a fault of the reading is the first of the bytes, unless memory ran out
  first_fault : (e : DocumentFault) → (e ≢ document.Memory → IsDocument mode bytes (Err e)) → run_fault e ≢ run.Memory → IsFirstFault mode bytes (run_fault e)
  first_fault document.Memory h m = absurd (m refl)
  first_fault e h m = h (λ is. cc)

  -- if the bytes are a document, a fault of the reading is that memory ran out
  only_memory : (e : DocumentFault) (d : Document) → (e ≢ document.Memory → IsDocument mode bytes (Err e)) → IsDocument mode bytes (Ok d) → run_fault e ≡ run.Memory
  only_memory document.Memory d h found = refl
  only_memory e d h found = absurd (let both = one_result mode bytes _ _ (h (λ is. cc)) found in cc)

  -- the exit of a `?` after the reading
  pub read_fails : {X : Type 0} (result : Result X RunFault) (e : DocumentFault) → IsErrAnd result (λ f. f ≡ run_fault e)
      → (e ≢ document.Memory → IsDocument mode bytes (Err e)) → IfErr result (λ f. f ≢ run.Memory → IsFirstFault mode bytes f)
  read_fails result e is h = err_of (λ f. f ≢ run.Memory → IsFirstFault mode bytes f) result (run_fault e) is (first_fault e h)

  pub read_only : {X : Type 0} (result : Result X RunFault) (e : DocumentFault) (d : Document) → IsErrAnd result (λ f. f ≡ run_fault e)
      → (e ≢ document.Memory → IsDocument mode bytes (Err e)) → IsDocument mode bytes (Ok d) → IfErr result (λ f. f ≡ run.Memory)
  read_only result e d is h found = err_of (λ f. f ≡ run.Memory) result (run_fault e) is (only_memory e d h found)

  pub shared_only : {X : Type 0} (result : Result X RunFault) (e : DocumentFault) (d : Document) → IsErrAnd result (λ f. f ≡ run_fault e)
      → (e ≢ document.Memory → IsDocument mode bytes (Err e)) → IsDocument mode bytes (Ok d) → IfErr result IsOwn
  shared_only result e d is h found = err_of IsOwn result (run_fault e) is (inl (only_memory e d h found))

  pub read_fails_by : {X : Type 0} (workers : Option ℕ) (result : Result X RunFault) (e : DocumentFault) → IsErrAnd result (λ f. f ≡ run_fault e)
      → (e ≢ document.Memory → IsDocument mode bytes (Err e)) → IfErr result (FailsBy workers mode bytes)
  read_fails_by None result e is h = read_fails result e is h
  read_fails_by (Some n) result e is h = err_of (FailsShared mode bytes) result (run_fault e) is (λ m. inl (first_fault e h m))

  -- what performing a document is refused for
  pub memory_fails : {X : Type 0} (result : Result X RunFault) → IfErr result (λ e. e ≡ run.Memory) → IfErr result (λ e. e ≢ run.Memory → IsFirstFault mode bytes e)
  memory_fails (Ok x) h = tt
  memory_fails (Err e) h = λ m. absurd (m h)

  pub own_fails : {X : Type 0} (result : Result X RunFault) (d : Document) → IfErr result IsOwn → IsDocument mode bytes (Ok d) → IfErr result (FailsShared mode bytes)
  own_fails (Ok x) d own found = tt
  own_fails (Err e) d own found = λ m. inr (own, (d, found))

  pub memory_fails_by : {X : Type 0} (workers : Option ℕ) (result : Result X RunFault) → workers ≡ None → IfErr result (λ e. e ≡ run.Memory) → IfErr result (FailsBy workers mode bytes)
  memory_fails_by workers result none h = subst (λ (w : Option ℕ). IfErr result (FailsBy w mode bytes)) (sym none) (memory_fails result h)

  pub own_fails_by : {X : Type 0} (workers : Option ℕ) (n : ℕ) (result : Result X RunFault) (d : Document) → workers ≡ Some n → IfErr result IsOwn → IsDocument mode bytes (Ok d)
      → IfErr result (FailsBy workers mode bytes)
  own_fails_by workers n result d some own found = subst (λ (w : Option ℕ). IfErr result (FailsBy w mode bytes)) (sym some) (own_fails result d own found)
