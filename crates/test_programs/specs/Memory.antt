-- What files in memory hold.
use Rattle.std.specs.Prelude.{◌≡◌, ℕ, List, [], ◌∷◌, ◌++◌, Option, Some, None, if◌then◌else◌}
use Rattle.sno_pattern.specs.Identifiers.{same}
use Rattle.test_programs.specs.declared.memory.Writing.{Writing}

-- what the file with this path holds after these writings, if it held this before them
abbrev pub held_after : List ℕ → Option (List ℕ) → List Writing → Option (List ℕ)
held_after path before [] = before
held_after path before (w ∷ writings) = held_after path (if same w.path.items path then Some w.bytes.items else before) writings

-- what it holds after all writings
abbrev pub held : List ℕ → List Writing → Option (List ℕ)
held path writings = held_after path None writings

-- these bytes were written to the file with this path
pub record IsWritten (path bytes : List ℕ) (old new : List Writing) : Type 0 where
  pub writing : Writing
  pub added : new ≡ old ++ writing ∷ []
  pub path_is : writing.path.items ≡ path
  pub bytes_are : writing.bytes.items ≡ bytes
