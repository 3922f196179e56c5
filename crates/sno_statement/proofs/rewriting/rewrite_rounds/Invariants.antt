-- The rounds so far, with those that are left, give the result of all rounds.
use Rattle.std.proofs.Common.{◌≡◌, ◌-◌, ◌≤◌, None}
use Rattle.sno_statement.specs.Statement.{with_limit}
use Rattle.sno_statement.proofs.RewritingRounds.{rounds_left}
use Rattle.sno_statement.proofs.rewriting.rewrite_rounds.Given as goal

abbrev pub invariant-loop-matches : goal.invariant-loop-matches
invariant-loop-matches l = record {
  same : rounds_left (with_limit l.rounds.statement.now l.rounds.trials) l.subject l.times 0 None ≡ rounds_left (with_limit l.rounds.statement.now l.rounds.trials) l.subject (l.times - l.matches) l.matches l.last;
  within : l.matches ≤ l.times;
}
