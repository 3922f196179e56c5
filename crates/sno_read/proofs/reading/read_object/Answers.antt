-- What is read is spelled so, and what is spelled so is read. No text has the fault `Memory`.
use Rattle.std.proofs.Common.{List, Ok, rules}
use Rattle.sno_read.specs.declared.objects.Part.{Part}
use Rattle.sno_read.specs.Reading.{AsksForMemory}
use Rattle.sno_read.specs.Objects.{object_of}
use Rattle.sno_read.proofs.Answered.{object_found, object_only}
use Rattle.sno_read.proofs.Late.{fault_is_found, fault_spells_nothing}
use Rattle.sno_read.proofs.NoMemory.{memory_is_no_fault}
use Rattle.sno_read.proofs.ObjectTexts.{object_again}
use Rattle.sno_read.proofs.reading.read_object.Goals as goal

pub returns-in-Ok-clause-found : goal.returns-in-Ok-clause-found
returns-in-Ok-clause-found c = object_found c.args.names.now c.args.text.now (Ok c.in-Ok.object) c.in-Ok.ensures.read

pub returns-in-Ok-clause-only : goal.returns-in-Ok-clause-only
returns-in-Ok-clause-only c = object_only c.args.names.now c.args.text.now (Ok c.in-Ok.object) c.in-Ok.ensures.read

pub returns-in-Err-Fault-clause-late : goal.returns-in-Err-Fault-clause-late
returns-in-Err-Fault-clause-late c =
    fault_is_found (List Part) (AsksForMemory c.args.text.now) (object_of c.args.names.now c.args.text.now) c.in-Err-Fault.fault (memory_is_no_fault.1 c.args.names.now c.args.text.now) (search (rules, c.in-Err-Fault.ensures.read, c.in-Err-Fault.is, c.in-Err-Fault.fault-is, c.in-Err-Fault.field-0-is))

pub returns-in-Err-Fault-clause-only : goal.returns-in-Err-Fault-clause-only
returns-in-Err-Fault-clause-only c = λ parts s. fault_spells_nothing (List Part) (λ (object : List Part). object) parts (object_of c.args.names.now c.args.text.now) c.in-Err-Fault.fault (object_again c.args.names.now c.args.text.now parts s) (search (rules, c.in-Err-Fault.ensures.read, c.in-Err-Fault.is, c.in-Err-Fault.fault-is, c.in-Err-Fault.field-0-is))
