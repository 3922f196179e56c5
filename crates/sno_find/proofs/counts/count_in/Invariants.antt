-- The hits so far, with those of the statements that are left. No statement so far was refused.
use Rattle.std.proofs.Common.{◌≡◌, ◌+◌, drop, length}
use Rattle.sno_edit.specs.Rules.{rules_seen}
use Rattle.sno_find.specs.Findings.{all_hits, first_refused}
use Rattle.sno_find.proofs.counts.count_in.Given as goal

abbrev pub invariant-loop-statement : goal.invariant-loop-statement
invariant-loop-statement l = record {
  counted : l.total + length (all_hits (rules_seen l.rules).trials l.path l.text (drop l.statement-index l.statements))
      ≡ length (all_hits (rules_seen l.rules).trials l.path l.text (rules_seen l.rules).statements);
  refused : first_refused (rules_seen l.rules).trials l.path l.text (drop l.statement-index l.statements)
      ≡ first_refused (rules_seen l.rules).trials l.path l.text (rules_seen l.rules).statements;
}
