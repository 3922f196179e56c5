-- What becomes of files of the system that are edited. What such a file holds is not known: it may be any text.
use Rattle.std.specs.Prelude.{◌≡◌, ℕ, List, [], ◌∷◌, Result, Ok, Err}
use Rattle.std.specs.Arc.{arc_value}
use Rattle.sno_edit.specs.Files.{HasCause, IsDone, IsFileEnd}
use Rattle.sno_edit.specs.Held.{Held}
use Rattle.sno_edit.specs.Rules.{FileRules}
use Rattle.sno_edit.specs.declared.faults.FileFault.{FileFault}
use Rattle.sno_edit.specs.declared.files.Done.{Done}
use Rattle.sno_files.specs.declared.editing.EditedFile.{EditedFile}

-- nothing is said of what a file holds
abbrev pub any_bytes : Held
any_bytes path bytes = Unit {0}

-- a file that held this text was edited by the rules, or a file was refused for a cause: if a statement was refused, by a text
abbrev pub IsEditedFile : FileRules → List ℕ → Result EditedFile FileFault → Type 0
IsEditedFile rules path (Ok file) = (is : IsDone rules path any_bytes any_bytes file.done) × (is.old ≡ arc_value file.before)
IsEditedFile rules path (Err fault) = HasCause rules path any_bytes fault

-- what became of the first of these files, as many as there are reports: each was edited by the rules, or refused for a cause
abbrev pub AreFirstEnds : FileRules → List (List ℕ) → List (Result Done FileFault) → Type 0
AreFirstEnds rules paths [] = Unit {0}
AreFirstEnds rules [] (end ∷ ends) = ⊥
AreFirstEnds rules (path ∷ paths) (end ∷ ends) = IsFileEnd rules path any_bytes any_bytes end × AreFirstEnds rules paths ends
