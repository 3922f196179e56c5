-- The hits so far, with those of the statements that are left. No statement so far was refused.
use Rattle.std.proofs.Common.{◌≡◌, ◌++◌, drop}
use Rattle.sno_edit.specs.Rules.{rules_seen}
use Rattle.sno_find.specs.Findings.{all_hits, first_refused, hits_seen}
use Rattle.sno_find.proofs.findings.hits_in.Given as goal

abbrev pub invariant-loop-statement : goal.invariant-loop-statement
invariant-loop-statement l = record {
  found : hits_seen l.hits.items ++ all_hits (rules_seen l.rules).trials l.path l.text (drop l.statement-index l.statements)
      ≡ all_hits (rules_seen l.rules).trials l.path l.text (rules_seen l.rules).statements;
  refused : first_refused (rules_seen l.rules).trials l.path l.text (drop l.statement-index l.statements)
      ≡ first_refused (rules_seen l.rules).trials l.path l.text (rules_seen l.rules).statements;
}
