-- Which files a run leaves that is killed, by their names.
use Rattle.std.specs.Prelude.{◌≡◌, ◌++◌, ◌==◌, ◌&&◌, ◌||◌, ◌⊎◌, ℕ, Bool, List, true, leb}
use Rattle.std.specs.List.{list_all}
use Rattle.sno_files.specs.declared.leftovers.TheConstants.{START, OLD}

-- a hexadecimal digit or a dash
abbrev pub is_of_number : ℕ → Bool
is_of_number c = (leb 48 c && leb c 57) || (leb 97 c && leb c 102) || c == 45

-- the name of a new file, or of an old one that is to be put back
abbrev pub IsOfRun : List ℕ → Type 0
IsOfRun name = (number : List ℕ) × (list_all is_of_number number ≡ true) × ((name ≡ START.now ++ number) ⊎ (name ≡ START.now ++ number ++ OLD.now))
