-- Rules: what JSON represents that is read for files. As a document, but without texts; a statement need not name its text, and
-- literals may have any bytes.
use Rattle.std.specs.Prelude.{◌≡◌, ◌≢◌, ℕ, List, [], Result, Ok, Err, codes, true, unwrap_or}
use Rattle.std.specs.Arc.{arc_value}
use Rattle.serde_json.specs.Data.{Data}
use Rattle.serde_json.specs.Find.{as_object}
use Rattle.sno_pattern.specs.Definitions.{Definitions}
use Rattle.sno_document.specs.Json.{array_at, string_at, optional_string_at, optional_bool_at, optional_number_at}
use Rattle.sno_document.specs.Shape.{StatementRow, Rows, or_shape, each_row, pairs_at}
use Rattle.sno_document.specs.Faults.{◌>>=◌}
use Rattle.sno_document.specs.Document.{IsAdmitted, definitions_of, statements_of, value_in}
use Rattle.sno_document.specs.declared.file_rules.FileRules.{FileRules}
use Rattle.sno_statement.specs.Statement.{Statement}
use Rattle.sno_document.specs.declared.faults.DocumentFault.{DocumentFault}
use Rattle.sno_document.specs.declared.faults.DocumentFault.TheVariants.{Memory}
use Rattle.sno_document.specs.declared.modes.Mode.{Mode}

-- the name of its text that a statement has if it is for every text
abbrev pub any_text : List ℕ
any_text = codes "*"

-- a statement whose text has this name, with what else the document writes of it
abbrev pub row_on : List ℕ → Data → Result StatementRow DocumentFault
row_on text d =
    or_shape (string_at (codes "pattern") d) >>= λ pattern. or_shape (optional_string_at (codes "object") d) >>= λ object.
    or_shape (optional_bool_at (codes "anchored") d) >>= λ anchored. or_shape (optional_number_at (codes "repeat") d) >>= λ repeat.
    or_shape (optional_bool_at (codes "all") d) >>= λ all.
    Ok (record { text = text; pattern = pattern; object = object; anchored = anchored; repeat = repeat; all = all })

-- a statement, which is for every text if it names none
abbrev pub rule_row : Data → Result StatementRow DocumentFault
rule_row d = or_shape (optional_string_at (codes "text") d) >>= λ text. row_on (unwrap_or text any_text) d

-- the array of statements
unfoldable pub rules_at : Data → Result (List StatementRow) DocumentFault
rules_at d = or_shape (array_at (codes "statements") d) >>= λ values. each_row rule_row [] values

-- the two arrays, in this order; a missing one is empty
unfoldable pub rule_arrays_of : Data → Result Rows DocumentFault
rule_arrays_of d =
    pairs_at (codes "patterns") (codes "name") (codes "pattern") d >>= λ patterns. rules_at d >>= λ statements.
    Ok (record { patterns = patterns; texts = []; statements = statements })

-- the rows of rules, which are an object
abbrev pub rule_rows_of : Data → Result Rows DocumentFault
rule_rows_of d = or_shape (as_object d) >>= λ members. rule_arrays_of d

-- what rules represent: definitions and statements
pub record RuleSet : Type 0 where
  pub rules : Definitions
  pub statements : List Statement

abbrev pub rules_seen : FileRules → RuleSet
rules_seen d = record { rules = arc_value d.rules; statements = d.statements.items }

-- what comes after the definitions, once they are admitted
unfoldable pub rules_with : Definitions → Mode → Rows → Result RuleSet DocumentFault
rules_with rules mode rows = statements_of true rules mode rows.statements >>= λ statements. Ok (record { rules = rules; statements = statements })

-- What rows represent as rules, in whichever form they were written: their definitions, admitted, and then their statements.
-- Otherwise the result is the first fault among these.
pub data AreRules (mode : Mode) (rows : Rows) : Result RuleSet DocumentFault → Type 0 where
  no_definitions : {e : DocumentFault} → definitions_of true rows.patterns ≡ Err e → AreRules mode rows (Err e)
  not_admitted : {e : DocumentFault} (rules : Definitions) → definitions_of true rows.patterns ≡ Ok rules → IsAdmitted rules (Err e) → AreRules mode rows (Err e)
  whole : {r : Result RuleSet DocumentFault} (rules : Definitions) → definitions_of true rows.patterns ≡ Ok rules → IsAdmitted rules (Ok rules)
      → rules_with rules mode rows ≡ r → AreRules mode rows r

-- What bytes represent as rules: a document without texts, or the first fault, in the order of a document's.
pub data IsRules (mode : Mode) (bytes : List ℕ) : Result RuleSet DocumentFault → Type 0 where
  no_value : {e : DocumentFault} → value_in bytes ≡ Err e → IsRules mode bytes (Err e)
  no_rows : {e : DocumentFault} (d : Data) → value_in bytes ≡ Ok d → rule_rows_of d ≡ Err e → IsRules mode bytes (Err e)
  of_rows : {r : Result RuleSet DocumentFault} (d : Data) (rows : Rows) → value_in bytes ≡ Ok d → rule_rows_of d ≡ Ok rows → AreRules mode rows r
      → IsRules mode bytes r

-- the result is what the bytes represent as rules, or out of memory
abbrev pub ReadsRules : Mode → List ℕ → Result FileRules DocumentFault → Type 0
ReadsRules mode bytes (Ok d) = IsRules mode bytes (Ok (rules_seen d))
ReadsRules mode bytes (Err e) = e ≢ Memory → IsRules mode bytes (Err e)

-- the result is what the rows represent, or out of memory
abbrev pub GivesRules : Mode → Rows → Result FileRules DocumentFault → Type 0
GivesRules mode rows (Ok d) = AreRules mode rows (Ok (rules_seen d))
GivesRules mode rows (Err e) = e ≢ Memory → AreRules mode rows (Err e)
