-- Sets of characters, seen as the lists of their members.
use Rattle.std.specs.Prelude.{ℕ, Bool, not, ◌&&◌, List, length, nat_eq, Option, Some, None, if◌then◌else◌}
use Rattle.std.specs.List.{list_all, list_any}
use Rattle.std.specs.Char.{is_ascii}

-- a set for a pattern: at least one member, each of them ASCII
abbrev pub is_class : List ℕ → Bool
is_class members = not (nat_eq (length members) 0) && list_all is_ascii members

-- what `Class::new` makes of bytes
abbrev pub class_of : List ℕ → Option (List ℕ)
class_of members = if is_class members then Some members else None

-- whether the character is in the set
abbrev pub has : List ℕ → ℕ → Bool
has members c = list_any (λ m. nat_eq m c) members
