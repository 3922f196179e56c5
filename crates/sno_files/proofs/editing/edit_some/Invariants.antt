-- There is a report of each of the first files, as many as before.
use Rattle.std.proofs.Common.{◌≡◌, length, map}
use Rattle.sno_edit.specs.Rules.{rules_seen}
use Rattle.sno_files.specs.Editing.{AreFirstEnds}
use Rattle.sno_files.proofs.editing.edit_some.Given as goal

abbrev pub invariant-loop-place : goal.invariant-loop-place
invariant-loop-place g l = AreFirstEnds (rules_seen l.fn.rules) (map (λ p. p.now) l.fn.paths) l.ends.items × (length l.ends.items ≡ length l.initial.ends.items)
