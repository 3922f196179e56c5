-- The text so far, with the statements that are left, gives the same result. Each statement adds fewer than 2^32 matches.
use Rattle.std.proofs.Common.{◌≡◌, ◌≤◌, ◌*◌, ◌^◌, drop}
use Rattle.std.specs.Arc.{arc_value}
use Rattle.sno_edit.specs.Edits.{IsKnown, edited, edited_seen, in_turn}
use Rattle.sno_edit.specs.Rules.{rules_seen}
use Rattle.sno_edit.proofs.edits.edited.Given as goal

abbrev pub invariant-loop-statement : goal.invariant-loop-statement
invariant-loop-statement l =
    (in_turn l.path l.rules.trials (drop l.statement-index l.statements) (edited_seen l.edited) ≡ edited (rules_seen l.rules) l.path (arc_value l.fn.text))
    × IsKnown l.edited × (l.edited.matches ≤ l.statement-index * 2 ^ 32)
