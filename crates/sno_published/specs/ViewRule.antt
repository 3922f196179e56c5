-- The rule of what is published.
use Rattle.std.specs.Prelude.{◌≡◌, ℕ, List}
use mathlib.Core.List.{IsPrefix}
use mathlib.Core.Option.{some}
use lib.ListN.{get_elem?}
use Rattle.sno_book.specs.Entries.{Entry}

-- what each reader has seen begins what is shown
abbrev pub Keeps : List Entry → List (List Entry) → Type 0
Keeps shown views = (seat : ℕ) (view : List Entry) → get_elem? views seat ≡ some view → IsPrefix view shown

-- what was shown begins with what the reader had seen; it has now seen all that is shown
abbrev pub Sees : List Entry → List Entry → List Entry → List Entry → Type 0
Sees view shown next after = IsPrefix view shown × (after ≡ next)
