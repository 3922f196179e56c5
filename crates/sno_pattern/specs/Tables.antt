-- Tables of characters.
use Rattle.std.specs.Prelude.{◌≡◌, ℕ, ◌/◌, ◌%◌, Bool, List, nat_eq, slice_index}
use Rattle.std.specs.Int.{bit_at}
use Rattle.sno_pattern.specs.Classes.{has}
use Rattle.sno_pattern.specs.declared.tables.Table.{Table}

-- whether the bit of a word at a place is 1
abbrev pub is_set : ℕ → ℕ → Bool
is_set word place = nat_eq (bit_at word place) 1

-- whether a table has a character
abbrev pub table_has : Table → ℕ → Bool
table_has table x = is_set (slice_index table.words (x / 64)) (x % 64)

-- a table that has the members, and no other character
abbrev pub IsTableOf : List ℕ → Table → Type 0
IsTableOf members table = (x : ℕ) → table_has table x ≡ has members x
