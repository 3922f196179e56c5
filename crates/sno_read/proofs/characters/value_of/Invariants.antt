-- The value so far, and that the remaining digits lead to the result.
use Rattle.std.proofs.Common.{◌≡◌, ◌≤◌, drop}
use Rattle.sno_read.specs.Characters.{number_from}
use Rattle.sno_read.proofs.characters.value_of.Given as goal

abbrev pub invariant-loop-digit : goal.invariant-loop-digit
invariant-loop-digit l = (l.value ≤ 65536) × (number_from l.value (drop l.digit-index l.digits) ≡ number_from 0 l.digits)
