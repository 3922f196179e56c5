-- Which faults say that something is wrong with a record.
use Rattle.std.specs.Prelude.{Bool, true, false}
use Rattle.sno_durable.specs.declared.faults.DurableFault.{DurableFault}
use Rattle.sno_durable.specs.declared.faults.DurableFault.TheVariants as fault

-- whether a fault says that a line isn't a record, or that a record has another outcome
abbrev pub is_of_record : DurableFault → Bool
is_of_record (fault.Record place) = true
is_of_record (fault.Outcome place) = true
is_of_record e = false
