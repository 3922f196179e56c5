-- Documents: what JSON represents, and the first fault of input that is not a document. `IsDocument`, at the end, says
-- in which order the checks come. Numbers in faults count from 1.
use Rattle.std.specs.Prelude.{◌≡◌, ℕ, ◌+◌, ◌&&◌, nat_le, Bool, List, [], ◌∷◌, ◌++◌, length, map, nat_lt, Option, Some, None, Result, Ok, Err, unwrap_or, slice_get, if◌then◌else◌, true, false, is_some}
use Rattle.serde_json.specs.Data.{Num, unsigned, negative, float, Data}
use Rattle.sno_pattern.specs.Tree.{Tree}
use Rattle.sno_pattern.specs.Identifiers.{name_of}
use Rattle.sno_pattern.specs.NameList.{names_of, first_repeat}
use Rattle.sno_pattern.specs.TextNames.{is_text_name}
use Rattle.sno_pattern.specs.Texts.{text_of}
use Rattle.sno_pattern.specs.Definitions.{Definitions}
use Rattle.sno_pattern.specs.Guard.{Guarded}
use Rattle.sno_pattern.specs.Admission.{IsFirstCycle}
use Rattle.sno_pattern.specs.declared.name_list.TheConstants.{MAX_DEFINITIONS}
use Rattle.sno_pattern.specs.declared.name_list.NamesFault.{NamesFault}
use Rattle.sno_pattern.specs.declared.name_list.NamesFault.TheVariants as names
use Rattle.sno_pattern.specs.declared.texts.TextFault.{TextFault}
use Rattle.sno_pattern.specs.declared.texts.TextFault.TheVariants as texts
use Rattle.sno_read.specs.Reading.{pattern_of, rule_pattern_of}
use Rattle.sno_read.specs.Objects.{object_of, rule_object_of}
use Rattle.sno_read.specs.declared.faults.ReadFault.{ReadFault}
use Rattle.sno_read.specs.declared.objects.Part.{Part}
use Rattle.sno_statement.specs.Statement.{Statement, with_all, with_limit, with_repeat}
use Rattle.sno_statement.specs.declared.statements.TheConstants.{MAX_ROUNDS, USUAL_TRIALS}
use Rattle.sno_book.specs.declared.openings.TheConstants.{MAX_ENTRIES, MAX_TEXTS}
use Rattle.sno_document.specs.Json.{json_of}
use Rattle.sno_document.specs.Shape.{Rows, StatementRow, rows_of}
use Rattle.sno_document.specs.Faults.{◌>>=◌}
use Rattle.sno_document.specs.declared.statements.TheConstants.{MAX_STATEMENTS}
use Rattle.sno_document.specs.declared.documents.TheConstants.{MAX_DOCUMENT}
use Rattle.sno_document.specs.declared.modes.Mode.{Mode}
use Rattle.sno_document.specs.declared.faults.DocumentFault.{DocumentFault}
use Rattle.sno_document.specs.declared.faults.DocumentFault.TheVariants as fault

-- names of texts with their characters
abbrev pub NamedTexts : Type 0
NamedTexts = List (List ℕ × List ℕ)

-- what a document represents
pub record Document : Type 0 where
  pub rules : Definitions
  pub texts : NamedTexts
  pub statements : List Statement

-- how many entries the journal of a run may hold; no document has more statements
abbrev pub room : ℕ
room = MAX_ENTRIES

-- the value that is there, or the fault if there is no value
abbrev pub or_fault : {A : Type 0} → DocumentFault → Option A → Result A DocumentFault
or_fault e None = Err e
or_fault e (Some x) = Ok x

-- what was read, or the fault of the reading
abbrev pub reading : {A : Type 0} → (ReadFault → DocumentFault) → Result A ReadFault → Result A DocumentFault
reading fault_of (Ok x) = Ok x
reading fault_of (Err e) = Err (fault_of e)

-- The pattern that a text spells, and the object. `wide` says that it is for files, so that literals may have any bytes.
abbrev pub pattern_in : (wide : Bool) → List (List ℕ) → ℕ → List ℕ → Result Tree ReadFault
pattern_in wide names earlier text = if wide then rule_pattern_of names earlier text else pattern_of names earlier text

abbrev pub object_in : (wide : Bool) → List (List ℕ) → List ℕ → Result (List Part) ReadFault
object_in wide names text = if wide then rule_object_of names text else object_of names text

-- no more rows than there may be
abbrev pub at_most : {A : Type 0} → ℕ → DocumentFault → List A → Result (List A) DocumentFault
at_most most e rows = if nat_lt most (length rows) then Err e else Ok rows

-- the names of the definitions from number d on, after those read before
abbrev pub names_from : ℕ → List (List ℕ) → List (List ℕ × List ℕ) → Result (List (List ℕ)) DocumentFault
names_from d done [] = Ok done
names_from d done (row ∷ rows) = or_fault (fault.PatternName d) (name_of row.0) >>= λ name. names_from (d + 1) (done ++ name ∷ []) rows

-- no name is a reserved word, and no two are the same
abbrev pub check_names : Result (List (List ℕ)) NamesFault → Result (List (List ℕ)) DocumentFault
check_names (Ok done) = Ok done
check_names (Err names.TooMany) = Err fault.TooManyPatterns
check_names (Err (names.Reserved place)) = Err (fault.PatternReserved (place + 1))
check_names (Err (names.Duplicate place)) = Err (fault.PatternDuplicate (place + 1))
check_names (Err names.Memory) = Err fault.Memory

-- the patterns of the definitions after the first d, to which plain names may refer
abbrev pub bodies_from : (wide : Bool) → List (List ℕ) → ℕ → List Tree → List (List ℕ × List ℕ) → Result (List Tree) DocumentFault
bodies_from wide defined d done [] = Ok done
bodies_from wide defined d done (row ∷ rows) =
    reading (fault.PatternRead (d + 1)) (pattern_in wide defined d row.1) >>= λ body. bodies_from wide defined (d + 1) (done ++ body ∷ []) rows

-- the definitions, before they are admitted
unfoldable pub definitions_of : (wide : Bool) → List (List ℕ × List ℕ) → Result Definitions DocumentFault
definitions_of wide rows =
    at_most MAX_DEFINITIONS fault.TooManyPatterns rows >>= λ rows. names_from 1 [] rows >>= λ written. check_names (names_of written) >>= λ defined.
    bodies_from wide defined 0 [] rows >>= λ bodies. Ok (record { names = defined; bodies = bodies })

-- the characters of text number t
abbrev pub check_text : ℕ → Result (List ℕ) TextFault → Result (List ℕ) DocumentFault
check_text t (Ok text) = Ok text
check_text t (Err texts.TooLong) = Err (fault.TextTooLong t)
check_text t (Err (texts.NonAscii place)) = Err (fault.TextNonAscii t)

-- text number t: its name, then its length, then its characters
unfoldable pub text_row : ℕ → List ℕ × List ℕ → Result (List ℕ × List ℕ) DocumentFault
text_row t row = if is_text_name row.0 then check_text t (text_of row.1) >>= (λ text. Ok (row.0, text)) else Err (fault.TextName t)

-- the texts from number t on, after those before
abbrev pub texts_from : ℕ → NamedTexts → List (List ℕ × List ℕ) → Result NamedTexts DocumentFault
texts_from t done [] = Ok done
texts_from t done (row ∷ rows) = text_row t row >>= λ text. texts_from (t + 1) (done ++ text ∷ []) rows

-- no two names are the same
abbrev pub unless_repeated : Option ℕ → NamedTexts → Result NamedTexts DocumentFault
unless_repeated None done = Ok done
unless_repeated (Some place) done = Err (fault.TextDuplicate (place + 1))

abbrev pub distinct : NamedTexts → Result NamedTexts DocumentFault
distinct done = unless_repeated (first_repeat (map (λ t. t.0) done)) done

-- the texts
unfoldable pub texts_of : List (List ℕ × List ℕ) → Result NamedTexts DocumentFault
texts_of rows = at_most MAX_TEXTS fault.TooManyTexts rows >>= λ rows. texts_from 1 [] rows >>= λ done. distinct done

-- the object of statement number s, if it has one
abbrev pub object_row : (wide : Bool) → List (List ℕ) → ℕ → Option (List ℕ) → Result (Option (List Part)) DocumentFault
object_row wide defined s None = Ok None
object_row wide defined s (Some text) = reading (fault.StatementObject s) (object_in wide defined text) >>= λ parts. Ok (Some parts)

-- the name of the text of statement number s
abbrev pub text_name_row : ℕ → List ℕ → Result (List ℕ) DocumentFault
text_name_row s name = if is_text_name name then Ok name else Err (fault.StatementName s)

-- statement number s, performed once, with the usual limit of trials: the name of its text, then its pattern, in which
-- plain names may refer to all definitions, then its object. `anchor` is for statements that don't say whether they are
-- anchored
unfoldable pub usual_row : (wide : Bool) → Definitions → Bool → ℕ → StatementRow → Result Statement DocumentFault
usual_row wide rules anchor s row =
    text_name_row s row.text >>= λ text. reading (fault.StatementPattern s) (pattern_in wide rules.names (length rules.names) row.pattern) >>= λ pattern.
    object_row wide rules.names s row.object >>= λ object.
    Ok (record { number = s; rules = rules; pattern = pattern; object = object; text = text; anchored = unwrap_or row.anchored anchor; limit = USUAL_TRIALS; repeat = None; all = false })

-- how many rounds a number says, if it is from 1 to 1,000 and written without sign, fraction and exponent
abbrev pub rounds_in : Num → Option ℕ
rounds_in (unsigned n) = if nat_le 1 n && nat_le n MAX_ROUNDS then Some n else None
rounds_in (negative z) = None
rounds_in (float x) = None

-- how often statement number s is repeated at most, if it says so; it must have an object then
abbrev pub repeat_row : ℕ → (has_object : Bool) → Option Num → Result (Option ℕ) DocumentFault
repeat_row s has_object None = Ok None
repeat_row s false (Some n) = Err (fault.StatementRepeat s)
repeat_row s true (Some n) = or_fault (fault.StatementRepeat s) (rounds_in n) >>= λ rounds. Ok (Some rounds)

-- whether statement number s is for all matches, if it says so; it must not be repeated then
abbrev pub all_row : ℕ → Option ℕ → Bool → Result Bool DocumentFault
all_row s repeat all = if all && is_some repeat then Err (fault.StatementAll s) else Ok all

-- the statement with its limit of trials, and with the number of its rounds if it is repeated, or for all matches
abbrev pub bounded : Statement → ℕ → Option ℕ → Bool → Statement
bounded statement limit None all = if all then with_all (with_limit statement limit) else with_limit statement limit
bounded statement limit (Some rounds) all = with_repeat (with_limit statement limit) rounds

-- statement number s with what the mode says: whether it is anchored if it doesn't say so itself, and how many trials
-- it may take. How often it is repeated is checked after its object, and whether it is for all matches after that
unfoldable pub task_row : (wide : Bool) → Definitions → Mode → ℕ → StatementRow → Result Statement DocumentFault
task_row wide rules mode s row =
    usual_row wide rules mode.anchor s row >>= λ statement. repeat_row s (is_some statement.object) row.repeat >>= λ repeat.
    all_row s repeat (unwrap_or row.all false) >>= λ all. Ok (bounded statement mode.trials repeat all)

-- the statements from number s on, after those before
abbrev pub statements_from : (wide : Bool) → Definitions → Mode → ℕ → List Statement → List StatementRow → Result (List Statement) DocumentFault
statements_from wide rules mode s done [] = Ok done
statements_from wide rules mode s done (row ∷ rows) =
    task_row wide rules mode s row >>= λ statement. statements_from wide rules mode (s + 1) (done ++ statement ∷ []) rows

-- the statements
unfoldable pub statements_of : (wide : Bool) → Definitions → Mode → List StatementRow → Result (List Statement) DocumentFault
statements_of wide rules mode rows = at_most MAX_STATEMENTS fault.TooManyStatements rows >>= λ rows. statements_from wide rules mode 1 [] rows

-- the value that bytes represent; the length is checked first
abbrev pub value_or : Option Data → Result Data DocumentFault
value_or None = Err fault.NotJson
value_or (Some d) = Ok d

unfoldable pub value_in : List ℕ → Result Data DocumentFault
value_in bytes = if nat_lt MAX_DOCUMENT (length bytes) then Err fault.DocumentTooLong else value_or (json_of bytes)

-- what comes after the definitions, once they are admitted
unfoldable pub document_with : Definitions → Mode → Rows → Result Document DocumentFault
document_with rules mode rows =
    texts_of rows.texts >>= λ done. statements_of false rules mode rows.statements >>= λ statements.
    Ok (record { rules = rules; texts = done; statements = statements })

-- What definitions represent: themselves if they are guarded. Otherwise the result is the fault with the name of the
-- first definition on a cycle of references that takes no character.
pub data IsAdmitted (rules : Definitions) : Result Definitions DocumentFault → Type 0 where
  guarded : Guarded rules.bodies → IsAdmitted rules (Ok rules)
  cycle : {name : List ℕ} (i : ℕ) (others : List ℕ) → IsFirstCycle rules.bodies (i ∷ others) → slice_get rules.names i ≡ Some name
      → IsAdmitted rules (Err (fault.Unguarded name))

-- What bytes represent: the value, its shape, the definitions, their admission, and then the rest. Otherwise the result
-- is the first fault among these.
pub data IsDocument (mode : Mode) (bytes : List ℕ) : Result Document DocumentFault → Type 0 where
  no_value : {e : DocumentFault} → value_in bytes ≡ Err e → IsDocument mode bytes (Err e)
  no_rows : {e : DocumentFault} (d : Data) → value_in bytes ≡ Ok d → rows_of d ≡ Err e → IsDocument mode bytes (Err e)
  no_definitions : {e : DocumentFault} (d : Data) (rows : Rows) → value_in bytes ≡ Ok d → rows_of d ≡ Ok rows → definitions_of false rows.patterns ≡ Err e
      → IsDocument mode bytes (Err e)
  not_admitted : {e : DocumentFault} (d : Data) (rows : Rows) (rules : Definitions) → value_in bytes ≡ Ok d → rows_of d ≡ Ok rows
      → definitions_of false rows.patterns ≡ Ok rules → IsAdmitted rules (Err e) → IsDocument mode bytes (Err e)
  whole : {r : Result Document DocumentFault} (d : Data) (rows : Rows) (rules : Definitions) → value_in bytes ≡ Ok d → rows_of d ≡ Ok rows
      → definitions_of false rows.patterns ≡ Ok rules → IsAdmitted rules (Ok rules) → document_with rules mode rows ≡ r → IsDocument mode bytes r
