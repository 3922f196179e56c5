-- What a store shows, what a crash may leave of it, and why it refuses.
use Rattle.std.specs.Prelude.{◌≡◌, ℕ, Bool, true, false, List, ◌++◌, take}
use Rattle.sqlite_disk.specs.declared.Disk.{Ghosts}
use Rattle.sno_store.specs.declared.faults.StoreFault.{StoreFault}
use Rattle.sno_store.specs.declared.faults.StoreFault.TheVariants.{Closed, Unsupported, TooLong, Memory, NoRoom, Read, Write, Sync}
use Rattle.sno_store.specs.declared.store.Store.{Store}
use Rattle.sno_store.specs.States.{is_open, is_ready}
use Rattle.sno_store.specs.Lines.{recovered}

-- the file holds the old lines, and the first of the new ones
abbrev pub HasFirst : List (List ℕ) → List (List ℕ) → List ℕ → Type 0
HasFirst olds news file = (k : ℕ) × (recovered file ≡ olds ++ take k news)

-- it refuses without a call of the disk that writes, and stays open
abbrev pub leaves_open : StoreFault → Bool
leaves_open TooLong = true
leaves_open Memory = true
leaves_open Closed = false
leaves_open Unsupported = false
leaves_open NoRoom = false
leaves_open (Read e) = false
leaves_open (Write e) = false
leaves_open (Sync e) = false

module _ {D : Type 0} {g : Ghosts D} where
  abbrev pub disk_of : Store D g → D
  disk_of store = store.disk

  -- it takes lines
  abbrev pub takes_lines : Store D g → Bool
  takes_lines store = is_open store.state

  -- there is nothing but zeros after its lines, at least one
  abbrev pub is_settled : Store D g → Bool
  is_settled store = is_ready store.state

  -- no wrong result of its disk was taken as true
  abbrev pub is_clean : Store D g → Bool
  is_clean store = g.is_clean store.disk

  -- what a read of its disk returns
  abbrev pub file_of : Store D g → List ℕ
  file_of store = g.seen store.disk

  -- the lines that a restart would read
  abbrev pub lines_of : Store D g → List (List ℕ)
  lines_of store = recovered (g.seen store.disk)

  -- a crash at this moment may leave this file
  abbrev pub Leaves : Store D g → List ℕ → Type 0
  Leaves store = g.may_leave store.disk

  -- a crash at this moment leaves what a read returns, and nothing else
  abbrev pub IsOnDisk : Store D g → Type 0
  IsOnDisk store = (c : List ℕ) → g.may_leave store.disk c → c ≡ g.seen store.disk

  -- each crash at this moment leaves these lines
  abbrev pub LeavesLines : Store D g → List (List ℕ) → Type 0
  LeavesLines store lines = (c : List ℕ) → g.may_leave store.disk c → recovered c ≡ lines
