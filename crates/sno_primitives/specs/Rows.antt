-- Sets of ASCII characters as rows: the character x is bit x / 16 of row x % 16.
use Rattle.std.specs.Prelude.{◌≡◌, ℕ, ◌/◌, ◌%◌, Bool, true, false, not, ◌&&◌, List, nat_lt, slice_index}
use Rattle.sno_pattern.specs.Classes.{has}
use Rattle.sno_pattern.specs.Tables.{is_set}
use Rattle.sno_primitives.specs.declared.rows.Rows.{Rows}

-- whether the rows have a character
abbrev pub rows_have : Rows → ℕ → Bool
rows_have rows x = nat_lt x 128 && is_set (slice_index rows.rows (x % 16)) (x / 16)

-- whether a run goes on through the character: a run inside the rows, or outside them
abbrev pub goes_by_rows : Bool → Rows → ℕ → Bool
goes_by_rows true rows x = rows_have rows x
goes_by_rows false rows x = not (rows_have rows x)

-- rows that have the members, and no other character
abbrev pub AreRowsOf : List ℕ → Rows → Type 0
AreRowsOf members rows = (x : ℕ) → rows_have rows x ≡ has members x
