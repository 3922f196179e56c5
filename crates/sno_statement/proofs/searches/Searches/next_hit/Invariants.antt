-- What is still to come is what was still to come before the call.
use Rattle.std.proofs.Common.{◌≡◌, ◌≤◌}
use Rattle.sno_statement.specs.Passes.{cursors_left, matches_left, trials_together}
use Rattle.sno_statement.proofs.searches.Searches.next_hit.Given as goal

abbrev pub invariant-loop-self : goal.invariant-loop-self
invariant-loop-self l = record {
  matches : matches_left l.fn.self ≡ matches_left l.self;
  trials : trials_together l.self ≡ trials_together l.fn.self;
  statement : l.self.statement ≡ l.fn.self.statement;
  text : l.self.text ≡ l.fn.self.text;
  fewer : cursors_left l.self.text l.self.at ≤ cursors_left l.fn.self.text l.fn.self.at;
}

abbrev pub decreases-loop-self : goal.decreases-loop-self
decreases-loop-self l = cursors_left l.self.text l.self.at
