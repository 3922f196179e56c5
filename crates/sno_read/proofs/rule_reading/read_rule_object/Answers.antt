-- What is read is spelled so, and what is spelled so is read. No text of a rule has the fault `Memory`.
use Rattle.std.proofs.Common.{List, Ok, rules}
use Rattle.sno_read.specs.declared.objects.Part.{Part}
use Rattle.sno_read.specs.Reading.{RuleAsksForMemory}
use Rattle.sno_read.specs.Objects.{rule_object_of}
use Rattle.sno_read.proofs.Answered.{rule_object_found, rule_object_only}
use Rattle.sno_read.proofs.Late.{fault_is_found, fault_spells_nothing}
use Rattle.sno_read.proofs.NoMemory.{memory_is_no_rule_fault}
use Rattle.sno_read.proofs.ObjectTexts.{rule_object_again}
use Rattle.sno_read.proofs.rule_reading.read_rule_object.Goals as goal

pub returns-in-Ok-clause-found : goal.returns-in-Ok-clause-found
returns-in-Ok-clause-found c = rule_object_found c.args.names.now c.args.text.now (Ok c.in-Ok.object) c.in-Ok.ensures.read

pub returns-in-Ok-clause-only : goal.returns-in-Ok-clause-only
returns-in-Ok-clause-only c = rule_object_only c.args.names.now c.args.text.now (Ok c.in-Ok.object) c.in-Ok.ensures.read

pub returns-in-Err-Fault-clause-late : goal.returns-in-Err-Fault-clause-late
returns-in-Err-Fault-clause-late c =
    fault_is_found (List Part) (RuleAsksForMemory c.args.text.now) (rule_object_of c.args.names.now c.args.text.now) c.in-Err-Fault.fault (memory_is_no_rule_fault.1 c.args.names.now c.args.text.now) (search (rules, c.in-Err-Fault.ensures.read, c.in-Err-Fault.is, c.in-Err-Fault.fault-is, c.in-Err-Fault.field-0-is))

pub returns-in-Err-Fault-clause-only : goal.returns-in-Err-Fault-clause-only
returns-in-Err-Fault-clause-only c = λ parts s. fault_spells_nothing (List Part) (λ (object : List Part). object) parts (rule_object_of c.args.names.now c.args.text.now) c.in-Err-Fault.fault (rule_object_again c.args.names.now c.args.text.now parts s) (search (rules, c.in-Err-Fault.ensures.read, c.in-Err-Fault.is, c.in-Err-Fault.fault-is, c.in-Err-Fault.field-0-is))
