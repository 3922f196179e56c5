-- Places in a text, as they are shown.
use Rattle.std.specs.Prelude.{ℕ, ◌+◌, Bool, ◌||◌, List, [], ◌∷◌, length, take, nat_lt, nat_le, if◌then◌else◌}
use Rattle.std.specs.List.{filter, list_any}
use Rattle.sno_edit.specs.Scripts.{is_line_feed}
use Rattle.sno_edit.specs.declared.positions.Position.{Position}

-- the byte begins a character: it doesn't continue one of UTF-8
abbrev pub begins_character : ℕ → Bool
begins_character b = nat_lt b 128 || nat_le 192 b

-- what comes after the last line feed
abbrev pub last_line : List ℕ → List ℕ
last_line [] = []
last_line (x ∷ text) = if list_any is_line_feed (x ∷ text) then last_line text else x ∷ text

-- the line of a place, from 1
abbrev pub line_at : List ℕ → ℕ → ℕ
line_at text place = length (filter is_line_feed (take place text)) + 1

-- the column of a place, from 1: by the characters that begin before it on its line
abbrev pub column_at : List ℕ → ℕ → ℕ
column_at text place = length (filter begins_character (last_line (take place text))) + 1

-- a place as it is shown
abbrev pub position_of : List ℕ → ℕ → Position
position_of text place = record { place = place; line = line_at text place; column = column_at text place }
