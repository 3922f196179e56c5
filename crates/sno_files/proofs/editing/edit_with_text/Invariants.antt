-- The last edit is one of the file.
use Rattle.sno_edit.specs.Rules.{rules_seen}
use Rattle.sno_files.specs.Editing.{IsEditedFile}
use Rattle.sno_files.proofs.editing.edit_with_text.Given as goal

abbrev pub invariant-loop : goal.invariant-loop
invariant-loop g l = IsEditedFile (rules_seen l.fn.rules) l.fn.path l.end
