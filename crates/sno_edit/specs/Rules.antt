-- Rules that were read.
use Rattle.std.specs.Prelude.{◌≡◌, ℕ, Bool, List, [], map, Ok}
use Rattle.sno_statement.specs.Statement.{Statement}
use Rattle.sno_statement.specs.declared.statements.TheConstants.{MAX_TRIALS}
use Rattle.sno_document.specs.DocumentRows.{pair_seen, statement_seen}
use Rattle.sno_document.specs.Rules.{AreRules, IsRules, RuleSet}
use Rattle.sno_document.specs.Shape.{Rows}
use Rattle.sno_document.specs.declared.document_rows.StatementRow.{StatementRow}
use Rattle.std.specs.Borrow.{Bor}
use Rattle.sno_document.specs.declared.modes.Mode.{Mode}
use Rattle.sno_edit.specs.declared.rules.EditRules.{EditRules}
use Rattle.sno_edit.specs.declared.trials.Trials.{Trials}

-- rules: statements in order, and how many trials each may take on a text
pub record FileRules : Type 0 where
  pub statements : List Statement
  pub trials : Trials

abbrev pub rules_seen : EditRules → FileRules
rules_seen rules = record { statements = rules.statements.items; trials = rules.trials }

-- The statements are read with a limit of trials that isn't used: that of the rules takes its place.
abbrev pub mode_of : Bool → Mode
mode_of anchor = record { anchor = anchor; trials = MAX_TRIALS }

-- the bytes are rules, and these are their statements
abbrev pub HoldsRules : Bool → List ℕ → List Statement → Type 0
HoldsRules anchor bytes statements = (d : RuleSet) × IsRules (mode_of anchor) bytes (Ok d) × (d.statements ≡ statements)

-- rules without texts, from the rows of their definitions and of their statements
abbrev pub rows_in : List (Bor (List ℕ) × Bor (List ℕ)) → List StatementRow → Rows
rows_in patterns statements = record { patterns = map pair_seen patterns; texts = []; statements = map statement_seen statements }

-- the rows are rules, and these are their statements
abbrev pub HoldsRows : Bool → Rows → List Statement → Type 0
HoldsRows anchor rows statements = (d : RuleSet) × AreRules (mode_of anchor) rows (Ok d) × (d.statements ≡ statements)
