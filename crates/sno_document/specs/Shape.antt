-- The shape of a document: an object with three arrays. Other members are ignored.
use Rattle.std.specs.Prelude.{ℕ, Bool, List, [], ◌∷◌, ◌++◌, Option, Some, None, Result, Ok, Err, codes}
use Rattle.serde_json.specs.Data.{Num, Data}
use Rattle.serde_json.specs.Find.{as_object}
use Rattle.sno_document.specs.Json.{array_at, string_at, optional_string_at, optional_bool_at, optional_number_at}
use Rattle.sno_document.specs.Faults.{◌>>=◌}
use Rattle.sno_document.specs.declared.faults.DocumentFault.{DocumentFault}
use Rattle.sno_document.specs.declared.faults.DocumentFault.TheVariants.{Shape}

-- a statement as the document writes it
pub record StatementRow : Type 0 where
  pub text : List ℕ
  pub pattern : List ℕ
  pub object : Option (List ℕ)
  pub anchored : Option Bool
  pub repeat : Option Num
  pub all : Option Bool

-- a document as it is written: names with patterns, names with texts, and statements
pub record Rows : Type 0 where
  pub patterns : List (List ℕ × List ℕ)
  pub texts : List (List ℕ × List ℕ)
  pub statements : List StatementRow

-- a member that is missing or of another kind is a wrong shape
abbrev pub or_shape : {X : Type 0} → Option X → Result X DocumentFault
or_shape None = Err Shape
or_shape (Some x) = Ok x

-- each element read in order, after those read before
abbrev pub each_row : {X : Type 0} → (Data → Result X DocumentFault) → List X → List Data → Result (List X) DocumentFault
each_row read rows [] = Ok rows
each_row read rows (d ∷ ds) = read d >>= λ row. each_row read (rows ++ row ∷ []) ds

-- two strings
abbrev pub pair_row : List ℕ → List ℕ → Data → Result (List ℕ × List ℕ) DocumentFault
pair_row first second d = or_shape (string_at first d) >>= λ a. or_shape (string_at second d) >>= λ b. Ok (a, b)

abbrev pub statement_row : Data → Result StatementRow DocumentFault
statement_row d =
    or_shape (string_at (codes "text") d) >>= λ text. or_shape (string_at (codes "pattern") d) >>= λ pattern.
    or_shape (optional_string_at (codes "object") d) >>= λ object. or_shape (optional_bool_at (codes "anchored") d) >>= λ anchored.
    or_shape (optional_number_at (codes "repeat") d) >>= λ repeat. or_shape (optional_bool_at (codes "all") d) >>= λ all.
    Ok (record { text = text; pattern = pattern; object = object; anchored = anchored; repeat = repeat; all = all })

-- the array of pairs with this key
unfoldable pub pairs_at : List ℕ → List ℕ → List ℕ → Data → Result (List (List ℕ × List ℕ)) DocumentFault
pairs_at key first second d = or_shape (array_at key d) >>= λ values. each_row (pair_row first second) [] values

-- the array of statements
unfoldable pub statements_at : Data → Result (List StatementRow) DocumentFault
statements_at d = or_shape (array_at (codes "statements") d) >>= λ values. each_row statement_row [] values

-- the three arrays, in this order; a missing one is empty
unfoldable pub arrays_of : Data → Result Rows DocumentFault
arrays_of d =
    pairs_at (codes "patterns") (codes "name") (codes "pattern") d >>= λ patterns.
    pairs_at (codes "texts") (codes "name") (codes "text") d >>= λ texts. statements_at d >>= λ statements.
    Ok (record { patterns = patterns; texts = texts; statements = statements })

-- the rows of a document, which is an object
abbrev pub rows_of : Data → Result Rows DocumentFault
rows_of d = or_shape (as_object d) >>= λ members. arrays_of d
