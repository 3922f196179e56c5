-- What a reading gives, and that a function returns it unless out of memory.
use Rattle.std.specs.Prelude.{◌≡◌, Option, Some, None, Result, Ok, Err}
use Rattle.sno_read.specs.declared.faults.ReadFault.{ReadFault}
use Rattle.sno_read.specs.declared.faults.ReadFault.TheVariants as fault
use Rattle.sno_read.specs.declared.faults.Stop.{Stop}
use Rattle.sno_read.specs.declared.faults.Stop.TheVariants as stop

-- going on with what was read, or the fault
infixl 10 ◌>>=◌
abbrev pub ◌>>=◌ : {A B : Type 0} → Result A ReadFault → (A → Result B ReadFault) → Result B ReadFault
(Ok x) >>= f = f x
(Err e) >>= f = Err e

-- what is there, or the fault if there is nothing
abbrev pub found_or : {A : Type 0} → ReadFault → Option A → Result A ReadFault
found_or e None = Err e
found_or e (Some x) = Ok x

-- a function that stopped reports the fault that the reading gives, or is out of memory
abbrev pub Stops : {Y : Type 0} → Stop → Result Y ReadFault → Type 0
Stops stop.Memory reading = Unit {0}
Stops (stop.Fault e) reading = reading ≡ Err e

-- what a function returned, seen by `view`, is what the reading gives, unless out of memory
abbrev pub Gives : {X Y : Type 0} → (X → Y) → Result X Stop → Result Y ReadFault → Type 0
Gives view (Ok x) reading = reading ≡ Ok (view x)
Gives view (Err s) reading = Stops s reading

-- what holds if a function stopped because it was out of memory
abbrev pub OnMemory : {X : Type 0} → Result X Stop → Type 0 → Type 0
OnMemory (Ok x) holds = Unit {0}
OnMemory (Err stop.Memory) holds = holds
OnMemory (Err (stop.Fault e)) holds = Unit {0}

-- as `Gives`, for a public function: what it returned is what the reading gives, unless out of memory
abbrev pub Returns : {X Y : Type 0} → (X → Y) → Result X ReadFault → Result Y ReadFault → Type 0
Returns view (Ok x) reading = reading ≡ Ok (view x)
Returns view (Err fault.Memory) reading = Unit {0}
Returns view (Err e) reading = reading ≡ Err e

-- what holds if a public function returned `Memory`
abbrev pub OnOutOfMemory : {X : Type 0} → Result X ReadFault → Type 0 → Type 0
OnOutOfMemory (Ok x) holds = Unit {0}
OnOutOfMemory (Err fault.Memory) holds = holds
OnOutOfMemory (Err e) holds = Unit {0}
