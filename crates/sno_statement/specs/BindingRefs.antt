-- Variables with their values, lent, by value.
use Rattle.sno_statement.specs.declared.binding.Datum.{Datum}
use Rattle.sno_statement.specs.declared.binding.Datum.TheVariants.{Str, Int}
use Rattle.sno_statement.specs.declared.binding_refs.DatumRef.{DatumRef}
use Rattle.sno_statement.specs.declared.binding_refs.DatumRef.TheVariants as lent
use Rattle.sno_statement.specs.declared.binding_refs.Lent.{Lent}
use Rattle.sno_statement.specs.declared.binding_refs.Lent.TheVariants.{Kept, Assigned}
use Rattle.sno_statement.specs.Bindings.{Bindings}
use Rattle.sno_statement.specs.LastAssignments.{values_of_last}

-- a value that is lent is that value
abbrev pub datum_lent : DatumRef → Datum
datum_lent (lent.Str s) = Str s
datum_lent (lent.Int n) = Int n

-- bindings that are lent are those bindings; last assignments that are lent have their values in the text
abbrev pub bindings_lent : Lent → Bindings
bindings_lent (Kept bound) = bound.now
bindings_lent (Assigned subject assigned) = values_of_last subject.now assigned.now
