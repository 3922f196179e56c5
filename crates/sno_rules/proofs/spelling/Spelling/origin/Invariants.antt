-- What the marks that are left say is what all say.
use Rattle.std.proofs.Common.{◌≡◌, drop, None}
use Rattle.sno_rules.specs.Spelling.{origin_from}
use Rattle.sno_rules.proofs.spelling.Spelling.origin.Given as goal

abbrev pub invariant-loop-mark : goal.invariant-loop-mark
invariant-loop-mark l = origin_from l.found (drop l.mark-index l.self.marks.items) l.at ≡ origin_from None l.self.marks.items l.at
