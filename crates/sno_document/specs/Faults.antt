-- Steps that may fail.
use Rattle.std.specs.Prelude.{◌≡◌, ◌≢◌, Result, Ok, Err}
use Rattle.sno_document.specs.declared.faults.DocumentFault.{DocumentFault}
use Rattle.sno_document.specs.declared.faults.DocumentFault.TheVariants.{Memory}

-- the fault is the expected one, or out of memory
abbrev pub Fails : {Y : Type 0} → DocumentFault → Result Y DocumentFault → Type 0
Fails fault wanted = fault ≢ Memory → wanted ≡ Err fault

-- the result, seen by `view`, is the expected one, or out of memory
abbrev pub Gives : {X Y : Type 0} → (X → Y) → Result X DocumentFault → Result Y DocumentFault → Type 0
Gives view (Ok x) wanted = wanted ≡ Ok (view x)
Gives view (Err fault) wanted = Fails fault wanted

-- one step, and then what follows
infixl 10 ◌>>=◌
abbrev pub ◌>>=◌ : {A B : Type 0} → Result A DocumentFault → (A → Result B DocumentFault) → Result B DocumentFault
(Ok x) >>= f = f x
(Err fault) >>= f = Err fault
