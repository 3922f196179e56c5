-- Faults of reading a document's bytes.
use Rattle.std.proofs.Common.{◌≡◌, ◌⊎◌, ◌<◌, ◌≤◌, inl, inr, ℕ, List, length, Option, Some, None, Result, Ok, Err, IfSome, IfErr, IsErrAnd, sym, ap, subst, ◌∙◌, arith}
use Rattle.std.proofs.lemmas.List.{length-append}
use Rattle.sno_document.proofs.LengthLemmas.{too_long}
use Rattle.sno_rewrite.specs.Streams.{IsReadFault, IsWholeInput, RefusesLonger, Takes}
use Rattle.sno_rewrite.specs.Reports.{IsOutside}
use Rattle.sno_rewrite.specs.Runs.{FailsBy}
use Rattle.sno_document.specs.Document.{IsDocument}
use Rattle.sno_rewrite.specs.declared.faults.RunFault.{RunFault}
use Rattle.sno_rewrite.specs.declared.faults.RunFault.TheVariants.{Document, Memory}
use Rattle.sno_document.specs.declared.faults.DocumentFault.TheVariants.{DocumentTooLong}
use Rattle.sno_rewrite.specs.Faults.{IsFirstFault}
use Rattle.sno_document.specs.declared.modes.Mode.{Mode}

no_memory : (workers : Option ℕ) (mode : Mode) (old : Option (List ℕ)) (e : RunFault) → e ≡ Memory → IfSome old (λ bytes. FailsBy workers mode bytes e)
no_memory workers mode None e is = tt
no_memory None mode (Some bytes) e is = λ unlike. absurd (unlike is)
no_memory (Some n) mode (Some bytes) e is = λ unlike. absurd (unlike is)

long_document : (workers : Option ℕ) (mode : Mode) (old : Option (List ℕ)) (e : RunFault) → e ≡ Document DocumentTooLong → IfSome old (λ all. 16777216 < length all)
    → IfSome old (λ bytes. FailsBy workers mode bytes e)
long_document workers mode None e is long = tt
long_document None mode (Some bytes) e is long = λ _. subst (λ f. IsFirstFault mode bytes f) (sym is) (IsDocument.no_value (too_long bytes long))
long_document (Some n) mode (Some bytes) e is long = λ _. inl (subst (λ f. IsFirstFault mode bytes f) (sym is) (IsDocument.no_value (too_long bytes long)))

-- a reader from which `count` bytes were taken had at least that many
taken_of : (old new : Option (List ℕ)) (count : ℕ) → Takes count old new → IfSome old (λ all. count ≤ length all)
taken_of None new count h = tt
taken_of (Some all) None count h = absurd h.1
taken_of (Some all) (Some rest) count h = omega (arith, ap length h.1, length-append h.0 rest, h.2)

long_of : (old : Option (List ℕ)) → IfSome old (λ all. 16777217 ≤ length all) → IfSome old (λ all. 16777216 < length all)
long_of None h = tt
long_of (Some all) h = omega (arith, h)

pub read_fault : {X : Type 0} (workers : Option ℕ) (mode : Mode) (old new : Option (List ℕ)) (result : Result X RunFault) (e : RunFault)
    → IsErrAnd result (λ d. d ≡ e) → IsReadFault old new e → IfErr result (λ d. IsOutside d ⊎ IfSome old (λ bytes. FailsBy workers mode bytes d))
read_fault workers mode old new (Ok x) e is h = absurd is
read_fault workers mode old new (Err d) e is (inl (inl m)) = inr (no_memory workers mode old d (is ∙ m))
read_fault workers mode old new (Err d) e is (inl (inr r)) = inl (inl (is ∙ r))
read_fault workers mode old new (Err d) e is (inr t) = inr (long_document workers mode old d (is ∙ t.0) (long_of old (taken_of old new 16777217 t.1)))

-- if there are more bytes than a document may have, the run is refused for what reading is refused for
pub refuses_longer : {X : Type 0} (old new : Option (List ℕ)) (result : Result X RunFault) (e : RunFault) → IsErrAnd result (λ d. d ≡ e) → IsReadFault old new e
    → RefusesLonger old new result
refuses_longer None new result e is h = tt
refuses_longer (Some all) new (Ok x) e is h = absurd is
refuses_longer (Some all) new (Err d) e is h = λ _. subst (λ (f : RunFault). IsReadFault (Some all) new f) (sym is) h

-- what was read whole is no longer than a document may be
pub never_longer : {X : Type 0} (old new : Option (List ℕ)) (bytes : List ℕ) (result : Result X RunFault) → IsWholeInput old new bytes → RefusesLonger old new result
never_longer None new bytes result h = tt
never_longer (Some all) new bytes result h = λ long. absurd (omega (arith, long, ap length h.0, h.2))
