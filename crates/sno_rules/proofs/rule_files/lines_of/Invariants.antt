-- What follows gives what all give.
use Rattle.std.proofs.Common.{◌≡◌, ◌≤◌, ◌+◌, List, [], length, map, Result}
use Rattle.sno_rules.specs.declared.faults.RuleFileFault.{RuleFileFault}
use Rattle.sno_rules.specs.RuleFiles.{AreLines, FileLine, line_seen}
use Rattle.sno_rules.proofs.rule_files.lines_of.Given as goal

abbrev pub invariant-loop-rest : goal.invariant-loop-rest
invariant-loop-rest l = (l.number + length l.rest ≤ length l.file + 1) × ((r : Result (List FileLine) RuleFileFault) → AreLines l.number (map line_seen l.lines.items) l.rest r → AreLines 1 [] l.file r)

abbrev pub decreases-loop-rest : goal.decreases-loop-rest
decreases-loop-rest l = length l.rest
