-- The status with which the program ends.
use Rattle.std.specs.Prelude.{ℕ}
use Rattle.bench_matches.specs.declared.faults.Fault.{Fault}
use Rattle.bench_matches.specs.declared.faults.Fault.TheVariants.{Usage, Document}

-- 3 for invalid arguments, 2 for a fault of the document, and 4 for the rest
abbrev pub status : Fault → ℕ
status Usage = 3
status (Document fault) = 2
status _ = 4
