-- The causes of faults.
use Rattle.std.specs.Prelude.{◌≡◌, ◌≢◌, ◌<◌, ◌≤◌, ◌+◌, ◌^◌, max, ℕ, Bool, true, false, List, length, slice_index, if◌then◌else◌, IsTrue, ⊤}
use Rattle.std.specs.declared.io.Error.{Error}
use Rattle.sqlite_disk.specs.declared.Disk.{Ghosts}
use Rattle.sqlite_disk.specs.Disk.{MoreFaults}
use Rattle.sqlite_disk.specs.Refusal.{is_no_room}
use Rattle.sno_store.specs.declared.faults.StoreFault.{StoreFault}
use Rattle.sno_store.specs.declared.faults.StoreFault.TheVariants.{Closed, Unsupported, TooLong, Memory, NoRoom, Read, Write, Sync}
use Rattle.sno_store.specs.declared.faults.LineFault.{LineFault}
use Rattle.sno_store.specs.declared.faults.LineFault.TheVariants.{NoBrace, LineFeed, Nul, Memory as LineMemory}
use Rattle.sno_store.specs.Lines.{IsLine}

abbrev pub of_write : Error → StoreFault
of_write e = if is_no_room e then NoRoom else Write e

abbrev pub of_sync : Error → StoreFault
of_sync e = if is_no_room e then NoRoom else Sync e

module _ {D : Type 0} (g : Ghosts D) where
  -- The causes of a write that is waited for: the disk itself failed between these two moments. After a failed sync it can't be used.
  abbrev pub IsWriteFault : D → D → StoreFault → Type 0
  IsWriteFault old new Unsupported = g.is_mixing new ≡ false
  IsWriteFault old new NoRoom = MoreFaults (g.tally_of old).refused (g.tally_of new).refused
  IsWriteFault old new (Write e) = MoreFaults (g.faults old) (g.faults new) × (g.is_usable new ≡ true)
  IsWriteFault old new (Sync e) = MoreFaults (g.faults old) (g.faults new) × (g.is_usable new ≡ false)
  IsWriteFault old new Closed = ⊥
  IsWriteFault old new TooLong = ⊥
  IsWriteFault old new Memory = ⊥
  IsWriteFault old new (Read e) = ⊥

  -- The causes of a read of the whole file. Its length is known if no wrong result was taken as true.
  abbrev pub IsReadFault : D → D → StoreFault → Type 0
  IsReadFault old new TooLong = IsTrue (g.is_clean new) → 2 ^ 62 ≤ length (g.seen new)
  IsReadFault old new Memory = ⊤
  IsReadFault old new NoRoom = IsWriteFault old new NoRoom
  IsReadFault old new (Read e) = MoreFaults (g.faults old) (g.faults new)
  IsReadFault old new (Sync e) = IsWriteFault old new (Sync e)
  IsReadFault old new Closed = ⊥
  IsReadFault old new Unsupported = ⊥
  IsReadFault old new (Write e) = ⊥

  -- the causes of a load
  abbrev pub IsLoadFault : D → D → StoreFault → Type 0
  IsLoadFault old new Closed = g.is_usable old ≡ false
  IsLoadFault old new Unsupported = g.is_mixing old ≡ false
  IsLoadFault old new TooLong = IsReadFault old new TooLong
  IsLoadFault old new Memory = ⊤
  IsLoadFault old new NoRoom = IsReadFault old new NoRoom
  IsLoadFault old new (Read e) = IsReadFault old new (Read e)
  IsLoadFault old new (Sync e) = IsReadFault old new (Sync e)
  IsLoadFault old new (Write e) = ⊥

  -- The causes why a store, which was open or not, doesn't take n bytes more. It grows by a MiB, or by as much as a longer batch has.
  abbrev pub IsPutFault : Bool → ℕ → D → D → StoreFault → Type 0
  IsPutFault was_open n old new Closed = was_open ≡ false
  IsPutFault was_open n old new TooLong = IsTrue (g.is_clean new) → 2 ^ 62 < length (g.seen new) + max (2 ^ 20) n
  IsPutFault was_open n old new Memory = ⊤
  IsPutFault was_open n old new Unsupported = IsWriteFault old new Unsupported
  IsPutFault was_open n old new NoRoom = IsWriteFault old new NoRoom
  IsPutFault was_open n old new (Write e) = IsWriteFault old new (Write e)
  IsPutFault was_open n old new (Sync e) = IsWriteFault old new (Sync e)
  IsPutFault was_open n old new (Read e) = ⊥

  -- the causes of a read of a part of the file
  abbrev pub IsPartFault : D → D → StoreFault → Type 0
  IsPartFault old new Memory = ⊤
  IsPartFault old new (Read e) = MoreFaults (g.faults old) (g.faults new)
  IsPartFault old new Closed = ⊥
  IsPartFault old new Unsupported = ⊥
  IsPartFault old new TooLong = ⊥
  IsPartFault old new NoRoom = ⊥
  IsPartFault old new (Write e) = ⊥
  IsPartFault old new (Sync e) = ⊥

  -- the causes why what comes after the lines of a store, which was open or not, isn't read
  abbrev pub IsTailFault : Bool → D → D → StoreFault → Type 0
  IsTailFault was_open old new Closed = was_open ≡ false
  IsTailFault was_open old new Memory = ⊤
  IsTailFault was_open old new (Read e) = IsPartFault old new (Read e)
  IsTailFault was_open old new Unsupported = ⊥
  IsTailFault was_open old new TooLong = ⊥
  IsTailFault was_open old new NoRoom = ⊥
  IsTailFault was_open old new (Write e) = ⊥
  IsTailFault was_open old new (Sync e) = ⊥

  -- the disk has not failed between these two moments
  pub record IsSteady (old new : D) : Type 0 where
    pub faults : g.faults new ≡ g.faults old
    pub refused : (g.tally_of new).refused ≡ (g.tally_of old).refused

-- why bytes are not added to lines; only a line runs out of memory
abbrev pub IsCause : List ℕ → LineFault → Type 0
IsCause line NoBrace = slice_index line 0 ≢ 123
IsCause line LineFeed = (k : ℕ) × (k < length line) × (slice_index line k ≡ 10)
IsCause line Nul = (k : ℕ) × (k < length line) × (slice_index line k ≡ 0)
IsCause line LineMemory = IsLine line
