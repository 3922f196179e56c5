-- What follows gives what all give.
use Rattle.std.proofs.Common.{◌≡◌, ◌≤◌, List, [], length}
use Rattle.sno_rules.specs.Spelling.{IsJoined, Part}
use Rattle.sno_rules.proofs.arguments.joined.Given as goal

abbrev pub invariant-loop-rest : goal.invariant-loop-rest
invariant-loop-rest l = (length l.rest ≤ length l.text) × ((r : Part) → IsJoined l.names l.total l.members.items l.rest r → IsJoined l.names l.total [] l.text r)

abbrev pub decreases-loop-rest : goal.decreases-loop-rest
decreases-loop-rest l = length l.rest
