-- Why the hits of one statement are not found.
use Rattle.std.specs.Prelude.{◌≡◌, ℕ, Bool, true}
use Rattle.sno_find.specs.declared.faults.FindFault.{FindFault}
use Rattle.sno_find.specs.declared.faults.FindFault.TheVariants.{HistoryTooLong, Memory, TooManyTrials}

-- the statement with this number is refused, for its trials only if it takes too many
abbrev pub IsRefusal : Bool → ℕ → FindFault → Type 0
IsRefusal refused number (TooManyTrials n) = (refused ≡ true) × (n ≡ number)
IsRefusal refused number (HistoryTooLong n) = n ≡ number
IsRefusal refused number Memory = Unit {0}
