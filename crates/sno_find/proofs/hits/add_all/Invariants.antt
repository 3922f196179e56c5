-- The hits so far, with those of the matches that are left.
use Rattle.std.proofs.Common.{◌≡◌, ◌++◌, map}
use Rattle.sno_statement.specs.Passes.{all_matches, all_trials, cursors_left, matches_left, trials_together}
use Rattle.sno_statement.specs.Statement.{with_limit}
use Rattle.sno_find.specs.Findings.{hit_of, hits_seen}
use Rattle.sno_find.proofs.hits.add_all.Given as goal

abbrev pub invariant-loop-pass : goal.invariant-loop-pass
invariant-loop-pass l = record {
  found : hits_seen l.hits.items ++ map (hit_of l.statement.number) (matches_left l.pass)
      ≡ hits_seen l.fn.hits.items ++ map (hit_of l.statement.number) (all_matches (with_limit l.statement l.trials) l.text);
  trials : trials_together l.pass ≡ all_trials (with_limit l.statement l.trials) l.text;
  statement : l.pass.statement ≡ with_limit l.statement l.trials;
}

abbrev pub decreases-loop-pass : goal.decreases-loop-pass
decreases-loop-pass l = cursors_left l.pass.text l.pass.at
