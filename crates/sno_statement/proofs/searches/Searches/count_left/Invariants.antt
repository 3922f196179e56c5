-- The matches that were counted, with those that are still to come.
use Rattle.std.proofs.Common.{◌≡◌, ◌+◌, length}
use Rattle.sno_statement.specs.Passes.{cursors_left, matches_left, trials_together}
use Rattle.sno_statement.proofs.searches.Searches.count_left.Given as goal

abbrev pub invariant-loop-sets : goal.invariant-loop-sets
invariant-loop-sets l = record {
  counted : l.matches + length (matches_left l.self) ≡ length (matches_left l.fn.self);
  trials : trials_together l.self ≡ trials_together l.fn.self;
  text : l.self.text ≡ l.fn.self.text;
  statement : l.self.statement ≡ l.fn.self.statement;
}

abbrev pub decreases-loop-sets : goal.decreases-loop-sets
decreases-loop-sets l = cursors_left l.self.text l.self.at
