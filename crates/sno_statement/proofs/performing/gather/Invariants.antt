-- The matches so far are gathered, and the others are still to come.
use Rattle.std.proofs.Common.{◌≡◌, ◌++◌, List}
use Rattle.sno_statement.specs.declared.match_lists.Match.{Match}
use Rattle.sno_statement.specs.Gathered.{AreGathered}
use Rattle.sno_statement.specs.Passes.{cursors_left, matches_left, trials_together}
use Rattle.sno_statement.proofs.performing.gather.Given as goal

abbrev pub invariant-loop-sets : goal.invariant-loop-sets
invariant-loop-sets l = record {
  matches : (done : List Match) × (done ++ matches_left l.pass ≡ matches_left l.fn.pass)
      × ((ms : List Match) → AreGathered l.subject l.fn.gathered ms → AreGathered l.subject l.gathered (ms ++ done));
  trials : trials_together l.pass ≡ trials_together l.fn.pass;
  statement : l.pass.statement ≡ l.fn.pass.statement;
  text : l.pass.text ≡ l.subject;
}

abbrev pub decreases-loop-sets : goal.decreases-loop-sets
decreases-loop-sets l = cursors_left l.pass.text l.pass.at
