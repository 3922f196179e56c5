-- Scripts: the lines that two texts share, and those that only one of them has.
use Rattle.std.specs.Prelude.{ℕ, Bool, List, [], ◌∷◌, ◌++◌, nat_eq, if◌then◌else◌}
use Rattle.std.specs.Borrow.{Bor}
use Rattle.sno_edit.specs.declared.scripts.DiffLine.{DiffLine}
use Rattle.sno_edit.specs.declared.scripts.Mark.{Mark}
use Rattle.sno_edit.specs.declared.scripts.Mark.TheVariants.{Kept, Removed, Added}

abbrev pub is_line_feed : ℕ → Bool
is_line_feed x = nat_eq x 10

-- these lines, with this character more at the beginning of the first
abbrev pub with_first : ℕ → List (List ℕ) → List (List ℕ)
with_first x [] = (x ∷ []) ∷ []
with_first x (line ∷ lines) = (x ∷ line) ∷ lines

-- the lines of a text, each with its line feed; the last may have none
abbrev pub lines_in : List ℕ → List (List ℕ)
lines_in [] = []
lines_in (x ∷ text) = if is_line_feed x then (x ∷ []) ∷ lines_in text else with_first x (lines_in text)

-- lines by their characters
abbrev pub seen : List (Bor (List ℕ)) → List (List ℕ)
seen [] = []
seen (line ∷ lines) = line.now ∷ seen lines

-- what the old text has of lines with this mark
abbrev pub old_part : {A : Type 0} → Mark → List A → List A
old_part Kept part = part
old_part Removed part = part
old_part Added part = []

-- what the new text has of lines with this mark
abbrev pub new_part : {A : Type 0} → Mark → List A → List A
new_part Kept part = part
new_part Removed part = []
new_part Added part = part

-- the lines of the old text: those that are kept or removed
abbrev pub old_lines : List DiffLine → List (List ℕ)
old_lines [] = []
old_lines (line ∷ lines) = old_part line.mark (line.text.now ∷ []) ++ old_lines lines

-- the lines of the new text: those that are kept or added
abbrev pub new_lines : List DiffLine → List (List ℕ)
new_lines [] = []
new_lines (line ∷ lines) = new_part line.mark (line.text.now ∷ []) ++ new_lines lines

-- the old text: the lines that are kept or removed
abbrev pub old_text : List DiffLine → List ℕ
old_text [] = []
old_text (line ∷ lines) = old_part line.mark line.text.now ++ old_text lines

-- the new text: the lines that are kept or added. So the script, applied to the old text, gives it.
abbrev pub new_text : List DiffLine → List ℕ
new_text [] = []
new_text (line ∷ lines) = new_part line.mark line.text.now ++ new_text lines
