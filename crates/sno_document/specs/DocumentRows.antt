-- The rows of a document, borrowed by the program, by value.
use Rattle.std.specs.Prelude.{ℕ, List, map}
use Rattle.std.specs.Option.{option_map}
use Rattle.std.specs.Borrow.{Bor}
use Rattle.sno_document.specs.Shape as written
use Rattle.sno_document.specs.Trees.{number_seen}
use Rattle.sno_document.specs.declared.document_rows.StatementRow.{StatementRow}
use Rattle.sno_document.specs.declared.document_rows.Rows.{Rows}

abbrev pub pair_seen : Bor (List ℕ) × Bor (List ℕ) → List ℕ × List ℕ
pair_seen p = (p.0.now, p.1.now)

abbrev pub statement_seen : StatementRow → written.StatementRow
statement_seen row = record {
  text = row.text.now;
  pattern = row.pattern.now;
  object = option_map (λ s. s.now) row.object;
  anchored = row.anchored;
  repeat = option_map (λ s. number_seen s.now) row.repeat;
  all = row.all;
}

abbrev pub rows_seen : Rows → written.Rows
rows_seen rows = record {
  patterns = map pair_seen rows.patterns.items;
  texts = map pair_seen rows.texts.items;
  statements = map statement_seen rows.statements.items;
}
