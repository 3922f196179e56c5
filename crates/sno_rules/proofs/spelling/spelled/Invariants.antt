-- What follows gives what all give.
use Rattle.std.proofs.Common.{◌≡◌, ◌≤◌, ◌<◌, ◌+◌, length, ℕ, List, Result}
use Rattle.sno_rules.specs.Spelling.{IsSpelled, Spelled, nothing_spelled, spelling_seen}
use Rattle.sno_rules.specs.declared.faults.SpellingFault.{SpellingFault}
use Rattle.sno_rules.proofs.spelling.spelled.Given as goal

abbrev pub invariant-loop-rest : goal.invariant-loop-rest
invariant-loop-rest l = (length l.rest ≤ length l.written) × ((r : Result Spelled SpellingFault) → IsSpelled l.names (length l.written) (spelling_seen l.spelling) l.rest r → IsSpelled l.names (length l.written) nothing_spelled l.written r)

abbrev pub decreases-loop-rest : goal.decreases-loop-rest
decreases-loop-rest l = length l.rest
