-- What is written is read again as the document as it is with the texts.
use Rattle.serde_json.specs.View.{view}
use Rattle.sno_book.specs.Books.{view_of}
use Rattle.sno_book.specs.Views.{state_of}
use Rattle.sno_durable.proofs.WrittenLemmas.{document_written}
use Rattle.sno_durable.proofs.compacted.document_bytes.Goals as goal

pub returns : goal.returns
returns c =
    let made = c.in_ok-value.ensures in
    document_written c.args.document.now c.in_ok-bytes.bytes.items made.0 (view c.in_ok-value.value) (state_of (view_of c.args.book.now)) made.1 made.2 c.in_ok-bytes.ensures.reads_back
