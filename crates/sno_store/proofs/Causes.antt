-- Causes of faults, and states.
use Rattle.std.proofs.Common.{◌≡◌, refl, ℕ, Bool, true, false, IsTrue}
use Rattle.sqlite_disk.specs.declared.Disk.{Ghosts}
use Rattle.sno_store.specs.declared.faults.StoreFault.{StoreFault}
use Rattle.sno_store.specs.declared.faults.StoreFault.TheVariants.{Closed, Unsupported, TooLong, Memory, NoRoom, Read, Write, Sync}
use Rattle.sno_store.specs.declared.store.State.{State}
use Rattle.sno_store.specs.declared.store.State.TheVariants.{Closed as Shut, Found, Ready}
use Rattle.sno_store.specs.States.{is_open, is_ready}
use Rattle.sno_store.specs.Faults.{IsWriteFault, IsPutFault}

module _ {D : Type 0} (g : Ghosts D) where
  pub put_fault : (was_open : Bool) (n : ℕ) (old new : D) (fault : StoreFault) → IsWriteFault g old new fault → IsPutFault g was_open n old new fault
  put_fault was_open n old new Closed is = absurd is
  put_fault was_open n old new Unsupported is = is
  put_fault was_open n old new TooLong is = absurd is
  put_fault was_open n old new Memory is = absurd is
  put_fault was_open n old new NoRoom is = is
  put_fault was_open n old new (Read e) is = absurd is
  put_fault was_open n old new (Write e) is = is
  put_fault was_open n old new (Sync e) is = is

-- a store with zeros ahead takes lines
pub ready_is_open : (state : State) → IsTrue (is_ready state) → IsTrue (is_open state)
ready_is_open Shut ready = absurd (let e : false ≡ true = ready in cc)
ready_is_open Found ready = refl
ready_is_open Ready ready = refl
