-- How far a line and a column can be counted.
use Rattle.std.proofs.Common.{◌≤◌, ℕ, ◌+◌, Bool, true, false, if◌then◌else◌, List, [], ◌∷◌, length, take, arith, length-take}
use Rattle.std.specs.List.{filter, list_any}
use Rattle.sno_edit.specs.Positions.{begins_character, column_at, last_line, line_at}
use Rattle.sno_edit.specs.Scripts.{is_line_feed}

length_filter : (p : ℕ → Bool) (xs : List ℕ) → length (filter p xs) ≤ length xs
length_filter p [] = omega arith
length_filter p (x ∷ xs) = by (p x) (length_filter p xs)
  where
    by : (b : Bool) → length (filter p xs) ≤ length xs → length (if b then x ∷ filter p xs else filter p xs) ≤ length (x ∷ xs)
    by true h = omega (arith, h)
    by false h = omega (arith, h)

length_last_line : (xs : List ℕ) → length (last_line xs) ≤ length xs
length_last_line [] = omega arith
length_last_line (x ∷ xs) = by (list_any is_line_feed (x ∷ xs)) (length_last_line xs)
  where
    by : (b : Bool) → length (last_line xs) ≤ length xs → length (if b then last_line xs else x ∷ xs) ≤ length (x ∷ xs)
    by true h = omega (arith, h)
    by false h = omega arith

pub line_at_most : (text : List ℕ) (place : ℕ) → line_at text place ≤ place + 1
line_at_most text place = omega (arith, length_filter is_line_feed (take place text), length-take place text)

pub column_at_most : (text : List ℕ) (place : ℕ) → column_at text place ≤ place + 1
column_at_most text place =
    omega (arith, length_filter begins_character (last_line (take place text)), length_last_line (take place text), length-take place text)
