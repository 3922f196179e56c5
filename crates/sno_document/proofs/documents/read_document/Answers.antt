-- Each step says which of a document's cases applies.
use Rattle.std.proofs.Common.{ap, sym, ◌∙◌, false}
use Rattle.sno_pattern.specs.Definitions.{Definitions}
use Rattle.sno_document.specs.Document.{IsDocument, document_with}
use Rattle.sno_document.specs.Trees.{tree_seen}
use Rattle.sno_document.specs.DocumentRows.{rows_seen}
use Rattle.sno_document.specs.Drafts.{drafted_seen}
use Rattle.sno_document.proofs.FaultLemmas.{reads_err, drafted_from}
use Rattle.sno_document.proofs.documents.read_document.Goals as goal

pub returns-in_err-value-clause-document : goal.returns-in_err-value-clause-document
returns-in_err-value-clause-document c = reads_err _ _ _ _ c.from_residual.ensures.1 (λ m. IsDocument.no_value (c.in_err-value.ensures m))

pub returns-in_err-rows-clause-document : goal.returns-in_err-rows-clause-document
returns-in_err-rows-clause-document c = reads_err _ _ _ _ c.from_residual-in_err-rows.ensures.1 (λ m. IsDocument.no_rows _ c.in_ok-value.ensures (c.in_err-rows.ensures m))

pub returns-in_err-drafted-clause-document : goal.returns-in_err-drafted-clause-document
returns-in_err-drafted-clause-document c =
    reads_err _ _ _ _ c.from_residual-in_err-drafted.ensures.1
    (λ m. IsDocument.no_definitions (tree_seen c.in_ok-value.value) (rows_seen c.in_ok-rows.rows) c.in_ok-value.ensures c.in_ok-rows.ensures (drafted_from false c.in_ok-rows.rows c.deref.result.now _ c.deref.ensures.value (c.in_err-drafted.ensures.definitions m)))

pub returns-in_err-rules-clause-document : goal.returns-in_err-rules-clause-document
returns-in_err-rules-clause-document c =
    reads_err _ _ _ _ c.from_residual-in_err-rules.ensures.1
    (λ m. IsDocument.not_admitted (tree_seen c.in_ok-value.value) (rows_seen c.in_ok-rows.rows) (drafted_seen c.in_ok-drafted.drafted) c.in_ok-value.ensures c.in_ok-rows.ensures (drafted_from false c.in_ok-rows.rows c.deref.result.now _ c.deref.ensures.value c.in_ok-drafted.ensures.definitions) (c.in_err-rules.ensures m))

pub returns-in_err-document-clause-document : goal.returns-in_err-document-clause-document
returns-in_err-document-clause-document c =
    reads_err _ _ _ _ c.from_residual-in_err-document.ensures.1
    (λ m. IsDocument.whole (tree_seen c.in_ok-value.value) (rows_seen c.in_ok-rows.rows) (drafted_seen c.in_ok-drafted.drafted) c.in_ok-value.ensures c.in_ok-rows.ensures (drafted_from false c.in_ok-rows.rows c.deref.result.now _ c.deref.ensures.value c.in_ok-drafted.ensures.definitions) c.in_ok-rules.ensures.1
    (ap (λ (r : Definitions). document_with r c.args.mode (rows_seen c.in_ok-rows.rows)) (sym c.in_ok-rules.ensures.0) ∙ c.in_err-document.ensures.document m))

pub returns-clause-document : goal.returns-clause-document
returns-clause-document c =
    IsDocument.whole (tree_seen c.in_ok-value.value) (rows_seen c.in_ok-rows.rows) (drafted_seen c.in_ok-drafted.drafted) c.in_ok-value.ensures c.in_ok-rows.ensures (drafted_from false c.in_ok-rows.rows c.deref.result.now _ c.deref.ensures.value c.in_ok-drafted.ensures.definitions) c.in_ok-rules.ensures.1
    (ap (λ (r : Definitions). document_with r c.args.mode (rows_seen c.in_ok-rows.rows)) (sym c.in_ok-rules.ensures.0) ∙ c.in_ok-document.ensures.document)
