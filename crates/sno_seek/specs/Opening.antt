-- What a pattern is that was read from lines.
use Rattle.std.specs.Prelude.{◌≡◌, [], ◌∷◌, false, None, Ok}
use Rattle.sno_document.specs.Rules.{AreRules, RuleSet}
use Rattle.sno_document.specs.Shape.{Rows}
use Rattle.sno_document.specs.declared.modes.Mode.{Mode}
use Rattle.sno_seek.specs.declared.seeker.Seeker.{Seeker}
use Rattle.sno_statement.specs.declared.statements.TheConstants.{USUAL_TRIALS}

-- how it is performed, if it doesn't say so itself
abbrev pub usual : Mode
usual = record { anchor = false; trials = USUAL_TRIALS }

-- The pattern is that of the only statement of some rows, as rules are read, and nothing was sought yet.
pub record IsOpened (p : Seeker) : Type 0 where
  pub rows : Rows
  pub set : RuleSet
  pub read : AreRules usual rows (Ok set)
  pub only : set.statements ≡ p.statement ∷ []
  pub idle : (p.found ≡ None) × (p.ahead.items ≡ [])
