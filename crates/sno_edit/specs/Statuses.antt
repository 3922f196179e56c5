-- What became of files, counted, and the status that `sno edit` ends with once the rules were read.
use Rattle.std.specs.Prelude.{ℕ, Bool, true, false, ◌||◌, nat_eq, nat_lt, Result, Ok, Err, if◌then◌else◌}
use Rattle.sno_edit.specs.declared.files.Done.{Done}
use Rattle.sno_edit.specs.declared.faults.FileFault.{FileFault}
use Rattle.sno_edit.specs.declared.faults.FileFault.TheVariants.{TooLong, Refused, Cut, Unread, Unwritten, Memory}
use Rattle.sno_edit.specs.declared.tallies.Purpose.{Purpose}
use Rattle.sno_edit.specs.declared.tallies.Purpose.TheVariants.{Write, Diff, Check}
use Rattle.sno_edit.specs.declared.tallies.Tally.{Tally}

-- a statement was refused on the file
abbrev pub is_refused : Result Done FileFault → Bool
is_refused (Ok done) = false
is_refused (Err TooLong) = false
is_refused (Err (Refused statement)) = true
is_refused (Err (Cut character)) = true
is_refused (Err (Unread kind)) = false
is_refused (Err (Unwritten kind)) = false
is_refused (Err Memory) = false

-- the file could not be taken or written, or memory ran out
abbrev pub is_failed : Result Done FileFault → Bool
is_failed (Ok done) = false
is_failed (Err TooLong) = true
is_failed (Err (Refused statement)) = false
is_failed (Err (Cut character)) = false
is_failed (Err (Unread kind)) = true
is_failed (Err (Unwritten kind)) = true
is_failed (Err Memory) = true

-- one changed file, if this one changed
abbrev pub changed_in : Result Done FileFault → ℕ
changed_in (Ok done) = if done.changed then 1 else 0
changed_in (Err fault) = 0

-- how many matches there were in the file, if it was taken
abbrev pub matches_in : Result Done FileFault → ℕ
matches_in (Ok done) = done.matches
matches_in (Err fault) = 0

-- what the user asked for is not so: a file would change if files are checked, and otherwise nothing matched
abbrev pub is_missed : Purpose → Tally → Bool
is_missed Check tally = nat_lt 0 tally.changed
is_missed Write tally = nat_eq tally.matches 0
is_missed Diff tally = nat_eq tally.matches 0

-- 4 if a file could not be taken or written, otherwise 1 if a statement was refused or the wish was missed, otherwise 0
abbrev pub edit_status : Purpose → Tally → ℕ
edit_status purpose tally = if tally.failed then 4 else (if tally.refused || is_missed purpose tally then 1 else 0)
