-- What is read is spelled so, and what is spelled so is read. No text of a rule has the fault `Memory`.
use Rattle.std.proofs.Common.{Ok, rules}
use Rattle.sno_pattern.specs.Tree.{tree_of}
use Rattle.sno_pattern.specs.declared.tree.Pattern.{Pattern}
use Rattle.sno_read.specs.Reading.{rule_pattern_of, RuleAsksForMemory}
use Rattle.sno_read.proofs.Answered.{rule_pattern_found, rule_pattern_only}
use Rattle.sno_read.proofs.CompleteTexts.{rule_pattern_again}
use Rattle.sno_read.proofs.Late.{fault_is_found, fault_spells_nothing}
use Rattle.sno_read.proofs.NoMemory.{memory_is_no_rule_fault}
use Rattle.sno_read.proofs.rule_reading.read_rule_pattern.Goals as goal

pub returns-in-Ok-clause-found : goal.returns-in-Ok-clause-found
returns-in-Ok-clause-found c = rule_pattern_found c.args.names.now c.args.earlier c.args.text.now (Ok c.in-Ok.pattern) c.in-Ok.ensures.read

pub returns-in-Ok-clause-only : goal.returns-in-Ok-clause-only
returns-in-Ok-clause-only c = rule_pattern_only c.args.names.now c.args.earlier c.args.text.now (Ok c.in-Ok.pattern) c.in-Ok.ensures.read

pub returns-in-Err-Fault-clause-late : goal.returns-in-Err-Fault-clause-late
returns-in-Err-Fault-clause-late c =
    fault_is_found Pattern (RuleAsksForMemory c.args.text.now) (rule_pattern_of c.args.names.now c.args.earlier c.args.text.now) c.in-Err-Fault.fault (memory_is_no_rule_fault.0 c.args.names.now c.args.earlier c.args.text.now) (search (rules, c.in-Err-Fault.ensures.read, c.in-Err-Fault.is, c.in-Err-Fault.fault-is, c.in-Err-Fault.field-0-is))

pub returns-in-Err-Fault-clause-only : goal.returns-in-Err-Fault-clause-only
returns-in-Err-Fault-clause-only c = λ t s. fault_spells_nothing Pattern tree_of t (rule_pattern_of c.args.names.now c.args.earlier c.args.text.now) c.in-Err-Fault.fault (rule_pattern_again c.args.names.now c.args.earlier c.args.text.now t s) (search (rules, c.in-Err-Fault.ensures.read, c.in-Err-Fault.is, c.in-Err-Fault.fault-is, c.in-Err-Fault.field-0-is))
