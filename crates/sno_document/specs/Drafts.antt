-- Definitions of the program by value, before and after their admission.
use Rattle.std.specs.Prelude.{◌≡◌, ◌≢◌, length, Result, Ok, Err, IsTrue}
use Rattle.std.specs.List.{list_all}
use Rattle.sno_pattern.specs.Tree.{trees, refs_below}
use Rattle.sno_pattern.specs.Definitions.{Definitions}
use Rattle.sno_document.specs.Document.{IsAdmitted}
use Rattle.sno_document.specs.declared.definitions.Drafted.{Drafted}
use Rattle.sno_document.specs.declared.faults.DocumentFault.{DocumentFault}
use Rattle.sno_document.specs.declared.faults.DocumentFault.TheVariants.{Memory}

abbrev pub drafted_seen : Drafted → Definitions
drafted_seen d = record { names = d.names; bodies = trees d.bodies.items }

-- as many bodies as names, only references to definitions, and the names as they were written
pub record IsDrafted (d : Drafted) : Type 0 where
  pub as_many : length d.names ≡ length d.bodies.items
  pub covered : IsTrue (list_all (refs_below (length d.names)) (trees d.bodies.items))
  pub written : d.written.items ≡ d.names

-- the result is that of admission, or out of memory
abbrev pub Admits : Definitions → Result Definitions DocumentFault → Type 0
Admits rules (Ok admitted) = (admitted ≡ rules) × IsAdmitted rules (Ok rules)
Admits rules (Err e) = e ≢ Memory → IsAdmitted rules (Err e)
