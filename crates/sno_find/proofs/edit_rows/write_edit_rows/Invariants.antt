-- What was written so far, with what is left, is the whole.
use Rattle.std.proofs.Common.{◌∷◌, [], ◌++◌, drop}
use Rattle.std.specs.Arc.{arc_value}
use Rattle.sno_edit.specs.Rules.{rules_seen}
use Rattle.sno_find.specs.EditRows.{edit_json}
use Rattle.sno_find.proofs.EditRows.{IsWritten}
use Rattle.sno_find.proofs.edit_rows.write_edit_rows.Given as goal

abbrev pub invariant-loop-statement : goal.invariant-loop-statement
invariant-loop-statement g l =
    IsWritten (g.W.Write.contents l.fn.writer) (g.W.Write.contents l.writer)
    (edit_json (rules_seen l.rules).trials l.path (drop l.statement-index l.before ++ l.last ∷ []) (arc_value l.text))
    (edit_json (rules_seen l.rules).trials l.path (rules_seen l.rules).statements (arc_value l.fn.text))
