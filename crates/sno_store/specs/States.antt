-- The states of a store.
use Rattle.std.specs.Prelude.{Bool, true, false}
use Rattle.sno_store.specs.declared.store.State.{State}
use Rattle.sno_store.specs.declared.store.State.TheVariants.{Closed, Found, Ready}

-- it takes lines
abbrev pub is_open : State → Bool
is_open Closed = false
is_open Found = true
is_open Ready = true

-- it was loaded, and what comes after its lines was not written over
abbrev pub is_found : State → Bool
is_found Closed = false
is_found Found = true
is_found Ready = false

-- it has zeros ahead
abbrev pub is_ready : State → Bool
is_ready Closed = false
is_ready Found = false
is_ready Ready = true
