-- Bytes that are a document have no fault.
use Rattle.std.proofs.Common.{Err, subst}
use Rattle.sno_document.specs.Document.{IsDocument}
use Rattle.sno_rewrite.specs.Modes.{mode_of}
use Rattle.sno_rewrite.proofs.RunLemmas.{read_only}
use Rattle.sno_rewrite.proofs.runs.run_serial.Goals as goal

pub returns-in_err-document-clause-only : goal.returns-in_err-document-clause-only
returns-in_err-document-clause-only c = λ d found.
    read_only (mode_of c.args.options.now) c.args.bytes.now _ _ d c.from_residual.ensures.1
    (λ m. subst (λ z. IsDocument z c.args.bytes.now (Err c.in_err-document.field-0.0)) c.mode.ensures (c.in_err-document.ensures.document m)) found
