-- How what is on the disk keeps up with what is accepted.
use Rattle.std.specs.Prelude.{◌≡◌, ◌+◌, ◌++◌, ℕ, List, length, IsTrue}
use Rattle.sqlite_disk.specs.declared.Disk.{Ghosts}
use Rattle.sno_store.specs.declared.lines.Lines.{Lines}
use Rattle.sno_sealed.specs.declared.sealed.Sealed.{Sealed}
use Rattle.sno_sealed.specs.Batches.{sealed_batch}
use Rattle.sno_sealed.specs.Sealed.{lines_of, is_clean, IsOnDisk}
use Rattle.sno_store.specs.Shown.{lines_in}

-- as many records have come to those that wait as entries were accepted
abbrev pub HasNoted : Lines → Lines → ℕ → ℕ → Type 0
HasNoted waited waits before after = length (lines_in waits) + before ≡ length (lines_in waited) + after

module _ {D : Type 0} {g : Ghosts D} where
  -- this number of lines has come to the store, unless the disk has given other bytes than it has
  abbrev pub HasGained : Sealed D g → Sealed D g → ℕ → Type 0
  HasGained old new n = IsTrue (is_clean new) → length (lines_of new) ≡ n + length (lines_of old)

  -- as many lines have come to the store as entries were accepted, unless the disk has given other bytes than it has
  abbrev pub HasKept : Sealed D g → Sealed D g → ℕ → ℕ → Type 0
  HasKept old new before after = IsTrue (is_clean new) → length (lines_of new) + before ≡ length (lines_of old) + after

  -- these records, sealed as one batch, are the last lines of the store, and all its lines are on the disk, unless the disk has given other
  -- bytes than it has
  abbrev pub AreKept : Sealed D g → Lines → Type 0
  AreKept store records =
      IsTrue (is_clean store) → ((olds : List (List ℕ)) × (sum : ℕ) × (count : ℕ) × (lines_of store ≡ olds ++ sealed_batch sum count (lines_in records))) × IsOnDisk store
