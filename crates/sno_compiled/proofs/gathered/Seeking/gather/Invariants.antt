-- What was gathered so far, with what is still to be sought. The trials that are left are those of the searches to come.
use Rattle.std.proofs.Common.{◌≡◌, ◌+◌, ◌++◌}
use Rattle.sno_statement.specs.Passes.{IsCursor}
use Rattle.sno_compiled.specs.Gathered.{gathered, gathered_trials}
use Rattle.sno_compiled.proofs.gathered.Seeking.gather.Given as goal

abbrev pub invariant-loop-left : goal.invariant-loop-left
invariant-loop-left l = record {
  gathered : l.ahead.items ++ gathered l.fn.self.statement.now l.fn.self.text.now l.left l.at
      ≡ l.fn.ahead.items ++ gathered l.fn.self.statement.now l.fn.self.text.now l.fn.most l.fn.from;
  trials : l.fn.self.left + gathered_trials l.fn.self.statement.now l.fn.self.text.now l.left l.at
      ≡ l.self.left + gathered_trials l.fn.self.statement.now l.fn.self.text.now l.fn.most l.fn.from;
  statement : l.self.statement.now ≡ l.fn.self.statement.now;
  text : l.self.text.now ≡ l.fn.self.text.now;
  inside : IsCursor l.fn.self.text.now l.at;
}

abbrev pub decreases-loop-left : goal.decreases-loop-left
decreases-loop-left l = l.left
