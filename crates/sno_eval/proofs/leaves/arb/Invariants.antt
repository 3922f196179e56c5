-- The Ends so far and those at the cursors that are left are together all.
use Rattle.std.proofs.Common.{◌≡◌, ◌++◌, length}
use Rattle.sno_pattern.specs.Ends.{arb_ends}
use Rattle.sno_pattern.specs.Results.{further_ends}
use Rattle.sno_eval.proofs.Ranges.{up_to}
use Rattle.sno_eval.proofs.leaves.arb.Given as goal

abbrev pub invariant-loop-end : goal.invariant-loop-end
invariant-loop-end l = l.events.items ++ further_ends (up_to l.end (length l.text)) ≡ further_ends (arb_ends l.text l.c)
