-- What a fault says of the place of a store.
use Rattle.std.specs.Prelude.{Bool, true, false}
use Rattle.sno_replace.specs.declared.faults.ReplaceFault.{ReplaceFault}
use Rattle.sno_replace.specs.declared.faults.ReplaceFault.TheVariants.{NotReplaced, InDoubt}

-- the store has its place as before
abbrev pub is_not_replaced : ReplaceFault → Bool
is_not_replaced (NotReplaced error) = true
is_not_replaced (InDoubt error) = false
