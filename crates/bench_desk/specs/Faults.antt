-- The status with which the program ends.
use Rattle.std.specs.Prelude.{ℕ}
use Rattle.bench_desk.specs.declared.faults.Fault.{Fault}
use Rattle.bench_desk.specs.declared.faults.Fault.TheVariants.{Usage, NoLoad, NoDesk, Memory, Clock, Write, Refused, NoSnapshot, NoRead, WentDown, Elsewhere, Twice, Miscounted, Close}

-- 3 for its arguments, 4 if something was refused to it, and 1 for a finding that is not as it should be
abbrev pub status : Fault → ℕ
status Usage = 3
status NoLoad = 4
status NoDesk = 4
status Memory = 4
status Clock = 4
status Write = 4
status (Refused fault) = 1
status (NoSnapshot fault) = 1
status (NoRead fault) = 1
status WentDown = 1
status Elsewhere = 1
status Twice = 1
status Miscounted = 1
status Close = 1
