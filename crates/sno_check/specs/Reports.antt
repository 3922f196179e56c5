-- What a report says of the bytes.
use Rattle.std.specs.Prelude.{◌≡◌, ℕ, List, [], ◌∷◌, None, Ok, Err}
use Rattle.sno_document.specs.Document as document
use Rattle.sno_document.specs.Document.{IsDocument}
use Rattle.sno_document.specs.Rules.{AreRules, IsRules, RuleSet}
use Rattle.sno_document.specs.Shape.{Rows}
use Rattle.sno_document.specs.declared.modes.Mode.{Mode}
use Rattle.sno_findings.specs.declared.findings.Mistake.{Mistake}
use Rattle.sno_findings.specs.declared.findings.Place.TheVariants as place
use Rattle.sno_findings.specs.declared.findings.Warning.{Warning}

-- Without an error the bytes are a document. Otherwise they are not, and the first error is their first fault.
abbrev pub IsReported : Mode → List ℕ → List Mistake → Type 0
IsReported mode bytes [] = (d : document.Document) × IsDocument mode bytes (Ok d)
IsReported mode bytes (mistake ∷ others) = IsDocument mode bytes (Err mistake.fault)

-- the same of rules in JSON
abbrev pub TellsRules : Mode → List ℕ → List Mistake → Type 0
TellsRules mode bytes [] = (d : RuleSet) × IsRules mode bytes (Ok d)
TellsRules mode bytes (mistake ∷ others) = IsRules mode bytes (Err mistake.fault)

-- the same of the rows of rules
abbrev pub TellsRows : Mode → Rows → List Mistake → Type 0
TellsRows mode rows [] = (d : RuleSet) × AreRules mode rows (Ok d)
TellsRows mode rows (mistake ∷ others) = AreRules mode rows (Err mistake.fault)

-- a warning of statement number s, which is on no line of a document
pub record IsWarningOf (s : ℕ) (warning : Warning) : Type 0 where
  pub place : warning.place ≡ place.Statement s
  pub line : warning.line ≡ None
