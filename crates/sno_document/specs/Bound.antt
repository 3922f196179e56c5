-- One statement in which names represent texts. They are read as names of definitions are, after these, and are then replaced by
-- literals.
use Rattle.std.specs.Prelude.{◌≡◌, ℕ, ◌-◌, ◌++◌, List, length, map, nat_lt, Option, Some, None, is_some, Result, Ok, slice_get, unwrap_or, false, if◌then◌else◌}
use Rattle.std.specs.Option.{option_map}
use Rattle.sno_pattern.specs.Tree.{Tree, Lit, Ref, Arbno, Seq, Alt, Cond, Imm}
use Rattle.sno_pattern.specs.NameList.{place_of}
use Rattle.sno_pattern.specs.Definitions.{Definitions}
use Rattle.sno_read.specs.Reading.{pattern_of}
use Rattle.sno_read.specs.declared.objects.Part.{Part}
use Rattle.sno_read.specs.declared.objects.Part.TheVariants.{Quoted, Var}
use Rattle.sno_statement.specs.Statement.{Statement}
use Rattle.sno_statement.specs.declared.statements.TheConstants.{USUAL_TRIALS}
use Rattle.sno_document.specs.Shape.{StatementRow, statement_row}
use Rattle.sno_document.specs.Document.{value_in, reading, text_name_row, object_row, repeat_row, all_row, bounded}
use Rattle.sno_document.specs.Faults.{◌>>=◌}
use Rattle.sno_document.specs.declared.faults.DocumentFault.{DocumentFault}
use Rattle.sno_document.specs.declared.faults.DocumentFault.TheVariants as fault
use Rattle.sno_document.specs.declared.modes.Mode.{Mode}

-- the names of the definitions, and after them one for each text
pub record IsBound (defined names : List (List ℕ)) (texts : List (List ℕ)) : Type 0 where
  pub bound : List (List ℕ)
  pub named : names ≡ defined ++ bound
  pub each : length bound ≡ length texts

-- the text that name number i represents: none for the first n names, which are of definitions
abbrev pub bound_text : ℕ → List (List ℕ) → ℕ → Option (List ℕ)
bound_text n texts i = if nat_lt i n then None else slice_get texts (i - n)

-- the literal of a text, or the reference if it is to a definition
abbrev pub literal_or_ref : ℕ → Option (List ℕ) → Tree
literal_or_ref i None = Ref i
literal_or_ref i (Some t) = Lit t

-- the pattern with a literal for each name that represents a text
abbrev pub bound_tree : ℕ → List (List ℕ) → Tree → Tree
bound_tree n texts (Ref i) = literal_or_ref i (bound_text n texts i)
bound_tree n texts (Arbno p) = Arbno (bound_tree n texts p)
bound_tree n texts (Seq p q) = Seq (bound_tree n texts p) (bound_tree n texts q)
bound_tree n texts (Alt p q) = Alt (bound_tree n texts p) (bound_tree n texts q)
bound_tree n texts (Cond p v) = Cond (bound_tree n texts p) v
bound_tree n texts (Imm p v) = Imm (bound_tree n texts p) v
bound_tree n texts p = p

-- the text that a variable's name represents, if it represents one
abbrev pub text_at : ℕ → List (List ℕ) → Option ℕ → Option (List ℕ)
text_at n texts None = None
text_at n texts (Some i) = bound_text n texts i

-- the literal of a text, or the variable
abbrev pub literal_or_variable : List ℕ → Option (List ℕ) → Part
literal_or_variable v None = Var v
literal_or_variable v (Some t) = Quoted t

-- a part of an object, with the text that its name represents
abbrev pub bound_part : List (List ℕ) → ℕ → List (List ℕ) → Part → Part
bound_part names n texts (Quoted t) = Quoted t
bound_part names n texts (Var v) = literal_or_variable v (text_at n texts (place_of names v))

-- the object with the texts that its names represent
abbrev pub bound_object : List (List ℕ) → ℕ → List (List ℕ) → Option (List Part) → Option (List Part)
bound_object names n texts object = option_map (map (bound_part names n texts)) object

-- the pattern of statement number s, which may refer to all names, with the texts that they represent
abbrev pub bound_pattern_row : Definitions → List (List ℕ) → List (List ℕ) → ℕ → List ℕ → Result Tree DocumentFault
bound_pattern_row rules names texts s text =
    reading (fault.StatementPattern s) (pattern_of names (length names) text) >>= λ pattern. Ok (bound_tree (length rules.names) texts pattern)

-- its object. It is read with the names of the definitions alone, so each other name in it is a variable, or represents a text
abbrev pub bound_object_row : Definitions → List (List ℕ) → List (List ℕ) → ℕ → Option (List ℕ) → Result (Option (List Part)) DocumentFault
bound_object_row rules names texts s text = object_row false rules.names s text >>= λ object. Ok (bound_object names (length rules.names) texts object)

-- statement number s, performed once, with the usual limit of trials
unfoldable pub bound_usual_row : Definitions → List (List ℕ) → List (List ℕ) → Mode → ℕ → StatementRow → Result Statement DocumentFault
bound_usual_row rules names texts mode s row =
    text_name_row s row.text >>= λ text. bound_pattern_row rules names texts s row.pattern >>= λ pattern.
    bound_object_row rules names texts s row.object >>= λ object.
    Ok (record {
      number = s;
      rules = rules;
      pattern = pattern;
      object = object;
      text = text;
      anchored = unwrap_or row.anchored mode.anchor;
      limit = USUAL_TRIALS;
      repeat = None;
      all = false;
    })

-- the statement with what else it says of itself
unfoldable pub bound_row : Definitions → List (List ℕ) → List (List ℕ) → Mode → ℕ → StatementRow → Result Statement DocumentFault
bound_row rules names texts mode s row =
    bound_usual_row rules names texts mode s row >>= λ statement. repeat_row s (is_some statement.object) row.repeat >>= λ repeat.
    all_row s repeat (unwrap_or row.all false) >>= λ all. Ok (bounded statement mode.trials repeat all)

-- statement number s that bytes are, in which the names after those of the definitions represent these texts
abbrev pub bound_statement_in : Definitions → List (List ℕ) → List (List ℕ) → Mode → ℕ → List ℕ → Result Statement DocumentFault
bound_statement_in rules names texts mode s bytes = value_in bytes >>= λ d. statement_row d >>= λ row. bound_row rules names texts mode s row
