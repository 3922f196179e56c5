-- A fault passes through the steps that follow.
use Rattle.std.proofs.Common.{◌≡◌, ◌≢◌, ℕ, Bool, List, Result, Ok, Err, IsErrAnd, map, sym, ◌∙◌, ap, subst}
use Rattle.sno_document.specs.Faults.{Fails, Gives, ◌>>=◌}
use Rattle.std.specs.Borrow.{Bor}
use Rattle.sno_pattern.specs.Definitions.{Definitions}
use Rattle.sno_document.specs.DocumentRows.{pair_seen, rows_seen}
use Rattle.sno_document.specs.declared.document_rows.Rows.{Rows}
use Rattle.sno_document.specs.Document.{IsDocument, definitions_of}
use Rattle.sno_document.specs.Reads.{Reads}
use Rattle.sno_document.specs.Rules.{AreRules, GivesRules, IsRules, ReadsRules}
use Rattle.sno_document.specs.Shape as written
use Rattle.sno_document.specs.declared.documents.Document.{Document}
use Rattle.sno_document.specs.declared.file_rules.FileRules.{FileRules}
use Rattle.sno_document.specs.declared.faults.DocumentFault.{DocumentFault}
use Rattle.sno_document.specs.declared.faults.DocumentFault.TheVariants.{Memory}
use Rattle.sno_document.specs.declared.modes.Mode.{Mode}

pub fails_on : {A B : Type 0} (e : DocumentFault) (r : Result A DocumentFault) (f : A → Result B DocumentFault) → Fails e r → Fails e (r >>= f)
fails_on e r f h memory = ap (λ x. x >>= f) (h memory)

-- the exit of a `?`
pub gives_err : {X Y A : Type 0} (view : X → Y) (result : Result X DocumentFault) (e : DocumentFault) (r : Result A DocumentFault) (f : A → Result Y DocumentFault)
    → IsErrAnd result (λ d. d ≡ e) → Fails e r → Gives view result (r >>= f)
gives_err view (Err d) e r f is h = λ memory. ap (λ x. x >>= f) (h (λ m. memory (is ∙ m))) ∙ ap (λ x. Err x) (sym is)
gives_err view (Ok x) e r f is h = absurd is

-- the exit of a `?` of a document
pub reads_err : (mode : Mode) (bytes : List ℕ) (result : Result Document DocumentFault) (e : DocumentFault) → IsErrAnd result (λ d. d ≡ e)
    → (e ≢ Memory → IsDocument mode bytes (Err e)) → Reads mode bytes result
reads_err mode bytes (Err d) e is h = λ memory. subst (λ f. IsDocument mode bytes (Err f)) (sym is) (h (λ m. memory (is ∙ m)))
reads_err mode bytes (Ok x) e is h = absurd is

-- the exit of a `?` of rules
pub rules_err : (mode : Mode) (bytes : List ℕ) (result : Result FileRules DocumentFault) (e : DocumentFault) → IsErrAnd result (λ d. d ≡ e)
    → (e ≢ Memory → IsRules mode bytes (Err e)) → ReadsRules mode bytes result
rules_err mode bytes (Err d) e is h = λ memory. subst (λ f. IsRules mode bytes (Err f)) (sym is) (h (λ m. memory (is ∙ m)))
rules_err mode bytes (Ok x) e is h = absurd is

-- the exit of a `?` of rows
pub rows_err : (mode : Mode) (rows : written.Rows) (result : Result FileRules DocumentFault) (e : DocumentFault) → IsErrAnd result (λ d. d ≡ e)
    → (e ≢ Memory → AreRules mode rows (Err e)) → GivesRules mode rows result
rows_err mode rows (Err d) e is h = λ memory. subst (λ f. AreRules mode rows (Err f)) (sym is) (h (λ m. memory (is ∙ m)))
rows_err mode rows (Ok x) e is h = absurd is

-- the definitions of the rows are those of the slice of them
pub drafted_from : (wide : Bool) (rows : Rows) (slice : List (Bor (List ℕ) × Bor (List ℕ))) (r : Result Definitions DocumentFault) → slice ≡ rows.patterns.items
    → definitions_of wide (map pair_seen slice) ≡ r → definitions_of wide (rows_seen rows).patterns ≡ r
drafted_from wide rows slice r is h = ap (λ (l : List (Bor (List ℕ) × Bor (List ℕ))). definitions_of wide (map pair_seen l)) (sym is) ∙ h
