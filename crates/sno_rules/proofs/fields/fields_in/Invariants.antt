-- What follows gives what all give.
use Rattle.std.proofs.Common.{◌≡◌, ◌≤◌, length, Result}
use Rattle.sno_rules.specs.declared.faults.LineFault.{LineFault}
use Rattle.sno_rules.specs.Lines.{Fields, fields_seen, no_fields}
use Rattle.sno_rules.specs.Rules.{AreFields}
use Rattle.sno_rules.proofs.fields.fields_in.Given as goal

abbrev pub invariant-loop-after : goal.invariant-loop-after
invariant-loop-after l = (length l.rest ≤ l.total) × ((r : Result Fields LineFault) → AreFields l.total (fields_seen l.fields) l.rest r → AreFields l.total no_fields l.text r)

abbrev pub decreases-loop-after : goal.decreases-loop-after
decreases-loop-after l = length l.rest
