-- What the calls for files of rules give: what is wanted, or out of memory.
use Rattle.std.specs.Prelude.{◌≡◌, ◌≢◌, ℕ, List, [], map, Result, Ok, Err}
use Rattle.std.proofs.Common.{Global, Vec}
use Rattle.sno_rules.specs.declared.rule_files.FileLine.{FileLine as StoredLine}
use Rattle.sno_rules.specs.declared.faults.RuleFileFault.{RuleFileFault}
use Rattle.sno_rules.specs.declared.faults.RuleFileFault.TheVariants.{Memory}
use Rattle.sno_rules.specs.RuleFiles.{AreLines, FileLine, line_seen}

-- the lines are those wanted, or there is a fault
abbrev pub GivesMore : List FileLine → Result (List FileLine) RuleFileFault → Result (Unit {0}) RuleFileFault → Type 0
GivesMore lines wanted (Ok done) = wanted ≡ Ok lines
GivesMore lines wanted (Err e) = e ≢ Memory → wanted ≡ Err e

abbrev pub GivesLines : List ℕ → Result (Vec StoredLine Global) RuleFileFault → Type 0
GivesLines file (Ok lines) = AreLines 1 [] file (Ok (map line_seen lines.items))
GivesLines file (Err e) = e ≢ Memory → AreLines 1 [] file (Err e)
