-- The assignments of a search, one after the other.
use Rattle.std.specs.Prelude.{ℕ, List, [], ◌++◌, map, Option, None, Some}
use Rattle.sno_pattern.specs.declared.events.Assign.{Assign}
use Rattle.sno_pattern.specs.declared.events.What.TheVariants.{Part}
use Rattle.sno_pattern.specs.declared.found.Found.{Found}
use Rattle.sno_pattern.specs.declared.found.Hit.{Hit}

-- a conditional assignment as one of a part
abbrev pub as_assign : List ℕ × ℕ × ℕ → Assign
as_assign c = record { name = c.0; what = Part c.1 c.2 }

-- the conditional assignments of a match, in the order in which their parts ended
abbrev pub conditional : Option Hit → List Assign
conditional None = []
conditional (Some hit) = map as_assign hit.conds

-- the assignments of what a search found: first those that were done at once
abbrev pub assignments_of : Found → List Assign
assignments_of found = found.sets ++ conditional found.end

-- .. none, if nothing was found
abbrev pub found_assignments : Option Found → List Assign
found_assignments None = []
found_assignments (Some found) = assignments_of found
