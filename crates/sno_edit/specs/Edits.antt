-- What rules do to the text of a file: each statement is performed on the text that those before it left.
use Rattle.std.specs.Prelude.{◌≡◌, ◌+◌, ℕ, Bool, List, [], ◌∷◌, ◌++◌, ◌||◌, not, false, Option, Some, None, Result, Ok, Err, IfSome, IsUtf8, codes, length, unwrap_or, if◌then◌else◌}
use Rattle.std.specs.Arc.{arc_value}
use Rattle.std.specs.Str.{is_utf8}
use Rattle.std.specs.Str.Lossy.{utf8_valid_len}
use Rattle.sno_pattern.specs.Identifiers.{same}
use Rattle.sno_pattern.specs.declared.byte_texts.TheConstants.{MAX_BYTES}
use Rattle.sno_statement.specs.Statement.{Statement, with_limit}
use Rattle.sno_statement.specs.FileFaults.{in_file}
use Rattle.sno_statement.specs.Perform.{perform_within}
use Rattle.sno_statement.specs.Rewriting.{Rewriting, rewriting}
use Rattle.sno_statement.specs.declared.outcomes.StatementFault.{StatementFault}
use Rattle.sno_edit.specs.Faults.{follows, of_refused}
use Rattle.sno_edit.specs.Positions.{position_of}
use Rattle.sno_edit.specs.Rules.{FileRules}
use Rattle.sno_edit.specs.Trials.{trials_for}
use Rattle.sno_edit.specs.Utf8.{cut_at}
use Rattle.sno_edit.specs.declared.edits.CutCharacter.{CutCharacter}
use Rattle.sno_edit.specs.declared.edits.EditedText.{EditedText}
use Rattle.sno_edit.specs.declared.faults.FileFault.{FileFault}
use Rattle.sno_edit.specs.declared.faults.FileFault.TheVariants.{Cut}
use Rattle.sno_edit.specs.declared.trials.Trials.{Trials}

-- a text, with how many matches there were before
pub record Edited : Type 0 where
  pub text : List ℕ
  pub matches : ℕ

-- a statement is for the file whose path is the name of its text, and for every file if that name is `*`
abbrev pub is_for : List ℕ → Statement → Bool
is_for path s = same (codes "*") s.text || same path s.text

-- a statement that would leave this is refused if it cuts a character there
abbrev pub unless_cut : Statement → Option ℕ → Edited → Result Edited FileFault
unless_cut s None e = Ok e
unless_cut s (Some place) e = Err (Cut (record { statement = s.number; position = position_of e.text place }))

-- the old text with this new one in its place, unless a character is cut
abbrev pub with_text : Statement → Edited → ℕ → List ℕ → Result Edited FileFault
with_text s e matches text = unless_cut s (cut_at e.text text) (record { text = text; matches = e.matches + matches })

-- what a statement leaves: its new text, or the old one if it has none; a refused statement leaves nothing
abbrev pub left_by : Statement → Edited → Result Rewriting StatementFault → Result Edited FileFault
left_by s e (Ok done) = with_text s e done.matches (unwrap_or done.after e.text)
left_by s e (Err fault) = Err (of_refused (record { statement = s.number; fault = in_file fault }))

-- what a statement makes of a text, with the trials for its length
abbrev pub rewriting_of : Trials → Statement → List ℕ → Result Rewriting StatementFault
rewriting_of trials s text = rewriting (perform_within MAX_BYTES (with_limit s (trials_for trials (length text))) text)

-- a statement on a text, if it is for the file
abbrev pub turn : List ℕ → Trials → Statement → Edited → Result Edited FileFault
turn path trials s e = if is_for path s then left_by s e (rewriting_of trials s e.text) else Ok e

-- what follows if nothing was refused
abbrev pub then_on : Result Edited FileFault → (Edited → Result Edited FileFault) → Result Edited FileFault
then_on (Ok e) go_on = go_on e
then_on (Err fault) go_on = Err fault

-- the statements in turn; the first that is refused ends them
abbrev pub in_turn : List ℕ → Trials → List Statement → Edited → Result Edited FileFault
in_turn path trials [] e = Ok e
in_turn path trials (s ∷ statements) e = then_on (turn path trials s e) (in_turn path trials statements)

-- what the rules make of the text of the file with this path
abbrev pub edited : FileRules → List ℕ → List ℕ → Result Edited FileFault
edited rules path text = in_turn path rules.trials rules.statements (record { text = text; matches = 0 })

-- Why a statement cuts a character: the statements before it leave a text that is UTF-8, and it would make a text of it
-- that isn't, from this place on.
pub record IsCut (rules : FileRules) (path old : List ℕ) (cut : CutCharacter) : Type 0 where
  pub before : List Statement
  pub s : Statement
  pub later : List Statement
  pub e : Edited
  pub done : Rewriting
  pub statements : rules.statements ≡ before ++ s ∷ later
  pub number : cut.statement ≡ s.number
  pub left : in_turn path rules.trials before (record { text = old; matches = 0 }) ≡ Ok e
  pub would : rewriting_of rules.trials s e.text ≡ Ok done
  pub was : IsUtf8 e.text
  pub never : IsUtf8 (unwrap_or done.after e.text) → ⊥
  pub valid : cut.position ≡ position_of (unwrap_or done.after e.text) (utf8_valid_len (unwrap_or done.after e.text))

-- what is said of a text is so
abbrev pub IsKnown : EditedText → Type 0
IsKnown e = IfSome e.utf8 (λ known. known ≡ is_utf8 (arc_value e.text))

abbrev pub edited_seen : EditedText → Edited
edited_seen e = record { text = arc_value e.text; matches = e.matches }

-- the result is the one wanted, out of memory, or refused for too long a history
abbrev pub GivesEdited : Result EditedText FileFault → Result Edited FileFault → Type 0
GivesEdited (Ok e) wanted = wanted ≡ Ok (edited_seen e)
GivesEdited (Err fault) wanted = follows fault → wanted ≡ Err fault
