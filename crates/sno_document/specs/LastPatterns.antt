-- The pattern that was read last.
use Rattle.std.specs.Prelude.{◌≡◌, ℕ, Bool, List, Ok, IfSome, IsTrue, length}
use Rattle.std.specs.Arc.{arc_value}
use Rattle.sno_pattern.specs.Tree.{tree_of, refs_below}
use Rattle.sno_document.specs.Document.{pattern_in}
use Rattle.sno_document.specs.declared.last_patterns.LastPattern.{LastPattern}

-- the pattern is what is written, read with these names of definitions, and each of its references is to one of them
abbrev pub IsOfNames : (wide : Bool) → List (List ℕ) → LastPattern → Type 0
IsOfNames wide names last = IfSome last.read (λ read.
    (pattern_in wide names (length names) read.0.now ≡ Ok (tree_of (arc_value read.1))) × IsTrue (refs_below (length names) (tree_of (arc_value read.1))))
