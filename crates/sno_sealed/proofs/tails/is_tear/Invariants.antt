-- The rest of the tail says what the whole tail does.
use Rattle.std.proofs.Common.{◌≡◌, [], length}
use Rattle.sno_sealed.specs.Tails.{is_tear, is_tear_on}
use Rattle.sno_sealed.proofs.tails.is_tear.Given as goal

abbrev pub invariant-loop-at : goal.invariant-loop-at
invariant-loop-at l = is_tear_on l.fn.first l.fn.has_lines l.begins [] l.rest ≡ is_tear l.fn.first l.fn.has_lines l.fn.tail

abbrev pub decreases-loop-at : goal.decreases-loop-at
decreases-loop-at l = length l.rest
