-- What a match begins with.
use Rattle.std.specs.Prelude.{◌≡◌, ℕ, false, List, drop, nat_eq, Option, Some, None}
use Rattle.std.specs.List.{starts_with}
use Rattle.sno_pattern.specs.Tree as tree
use Rattle.sno_pattern.specs.Tree.{Tree}

-- the literal that is the first part of the pattern, if it is a literal
abbrev pub first_literal : Tree → Option (List ℕ)
first_literal (tree.Lit s) = Some s
first_literal (tree.Seq p q) = first_literal p
first_literal (tree.Cond p v) = first_literal p
first_literal (tree.Imm p v) = first_literal p
first_literal _ = None

-- the literal isn't at this cursor
abbrev pub IsMissing : List ℕ → List ℕ → ℕ → Type 0
IsMissing t s c = starts_with nat_eq (drop c t) s ≡ false
