-- What was written, and what the matches that are still to come leave of the text.
use Rattle.std.proofs.Common.{◌≡◌, ◌+◌, ◌<◌, ◌≤◌, ◌++◌, length, IfSome, MatchOption}
use Rattle.sno_pattern.specs.declared.byte_texts.TheConstants.{MAX_BYTES}
use Rattle.sno_statement.specs.Passes.{cursors_left, matches_left, replaced, trials_together}
use Rattle.sno_statement.proofs.rewriting.replace_left.Given as goal

abbrev pub invariant-loop-text : goal.invariant-loop-text
invariant-loop-text l = record {
  written : MatchOption l.text (MAX_BYTES < length (replaced l.object l.subject 0 (matches_left l.fn.pass)))
      (λ v. v.items ++ replaced l.object l.subject l.cursor (matches_left l.pass) ≡ replaced l.object l.subject 0 (matches_left l.fn.pass));
  short : IfSome l.text (λ v. length v.items ≤ MAX_BYTES);
  counted : l.matches + length (matches_left l.pass) ≡ length (matches_left l.fn.pass);
  trials : trials_together l.pass ≡ trials_together l.fn.pass;
  statement : l.pass.statement ≡ l.fn.pass.statement;
  text : l.pass.text ≡ l.subject;
}

abbrev pub decreases-loop-text : goal.decreases-loop-text
decreases-loop-text l = cursors_left l.pass.text l.pass.at
