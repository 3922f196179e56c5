-- No step of the reading has that fault.
use Rattle.sno_read.proofs.NoMemory.{memory_is_no_rule_fault}
use Rattle.sno_read.proofs.laws.memory_is_no_rule_fault.Goals as goal

pub returns : goal.returns
returns c = memory_is_no_rule_fault
