-- Unified diffs: hunks of lines, how they are written, and what they make of a text.
use Rattle.std.specs.Prelude.{◌≡◌, ◌+◌, ◌-◌, ◌/◌, ◌%◌, ◌||◌, ℕ, Bool, true, false, List, [], ◌∷◌, ◌++◌, IsTrue, codes, drop, length, take, slice_index, nat_eq, if◌then◌else◌}
use Rattle.std.specs.Fmt.{decimal}
use Rattle.std.specs.Char.{encode_utf8, is_ascii_control}
use Rattle.std.specs.List.{flat_map, list_all, list_any}
use Rattle.std.specs.Str.{chars}
use Rattle.sno_edit.specs.declared.scripts.DiffLine.{DiffLine}
use Rattle.sno_edit.specs.declared.scripts.Mark.{Mark}
use Rattle.sno_edit.specs.declared.scripts.Mark.TheVariants.{Kept, Removed, Added}
use Rattle.sno_edit.specs.Scripts.{is_line_feed, new_lines, old_lines}

-- One hunk: how many lines of the old and of the new text come before it, and its lines.
pub record Hunk : Type 0 where
  pub old_before : ℕ
  pub new_before : ℕ
  pub lines : List DiffLine

-- these lines of a script as a hunk, after some lines before it; before the script come o and n lines
abbrev pub hunk_at : ℕ → ℕ → ℕ → ℕ → List DiffLine → Hunk
hunk_at o n place count script =
    record { old_before = o + length (old_lines (take place script)); new_before = n + length (new_lines (take place script)); lines = take count (drop place script) }

-- ---- What hunks say
abbrev pub is_kept : Mark → Bool
is_kept Kept = true
is_kept Removed = false
is_kept Added = false

-- both texts have all of the lines
abbrev pub AreKept : List DiffLine → Type 0
AreKept lines = list_all (λ line. is_kept line.mark) lines ≡ true

-- The hunks are parts of a script, in order, and all lines between them are kept. Of the old text o lines come before the
-- script, and n of the new one; each hunk says how many come before it.
abbrev pub AreHunks : ℕ → ℕ → List Hunk → List DiffLine → Type 0
AreHunks o n [] script = AreKept script
AreHunks o n (hunk ∷ hunks) script =
    (between : List DiffLine) × (rest : List DiffLine) × (script ≡ between ++ (hunk.lines ++ rest)) × AreKept between
    × (hunk.old_before ≡ o + length between) × (hunk.new_before ≡ n + length between)
    × AreHunks (hunk.old_before + length (old_lines hunk.lines)) (hunk.new_before + length (new_lines hunk.lines)) hunks rest

-- Hunks applied to old lines, o lines after the first, give new ones, n lines after the first: each hunk takes its old lines
-- away at the place that it names, and puts its new ones there. All other lines stay.
abbrev pub TakeTo : ℕ → ℕ → List Hunk → List (List ℕ) → List (List ℕ) → Type 0
TakeTo o n [] old new = new ≡ old
TakeTo o n (hunk ∷ hunks) old new =
    (between : List (List ℕ)) × (olds : List (List ℕ)) × (news : List (List ℕ))
    × (hunk.old_before ≡ o + length between) × (hunk.new_before ≡ n + length between)
    × (old ≡ between ++ (old_lines hunk.lines ++ olds)) × (new ≡ between ++ (new_lines hunk.lines ++ news))
    × TakeTo (hunk.old_before + length (old_lines hunk.lines)) (hunk.new_before + length (new_lines hunk.lines)) hunks olds news

-- ---- How they are written
-- a code for a terminal, if there is to be colour
abbrev pub paint : Bool → List ℕ → List ℕ
paint coloured code = if coloured then code else []

abbrev pub end_code : List ℕ
end_code = 27 ∷ codes "[m"

abbrev pub line_code : Mark → List ℕ
line_code Kept = []
line_code Removed = 27 ∷ codes "[31m"
line_code Added = 27 ∷ codes "[32m"

abbrev pub line_end_code : Mark → List ℕ
line_end_code Kept = []
line_end_code Removed = end_code
line_end_code Added = end_code

abbrev pub sign : Mark → List ℕ
sign Kept = codes " "
sign Removed = codes "-"
sign Added = codes "+"

-- the last character of a line is a line feed
abbrev pub has_line_feed : List ℕ → Bool
has_line_feed line = is_line_feed (slice_index line (length line - 1))

-- a line without its line feed
abbrev pub bare : List ℕ → List ℕ
bare line = if has_line_feed line then take (length line - 1) line else line

-- what comes after a line that has no line feed
abbrev pub unended : List ℕ → List ℕ
unended line = if has_line_feed line then [] else 92 ∷ (codes " No newline at end of file" ++ (10 ∷ []))

-- a line of a hunk
abbrev pub line_text : Bool → DiffLine → List ℕ
line_text coloured line =
    paint coloured (line_code line.mark) ++ (sign line.mark ++ (bare line.text.now ++ (paint coloured (line_end_code line.mark)
    ++ (10 ∷ [] ++ unended line.text.now))))

-- Which lines of a text a hunk has: the number of the first, from 1, and how many, if it isn't one. Without a line it is the
-- number of the line before.
abbrev pub range_text : ℕ → ℕ → List ℕ
range_text before count =
    if nat_eq count 0 then decimal before ++ codes ",0"
    else if nat_eq count 1 then decimal (before + 1) else decimal (before + 1) ++ (codes "," ++ decimal count)

-- which lines a hunk has of the old text and of the new one
abbrev pub ranges_text : Hunk → List ℕ
ranges_text hunk =
    range_text hunk.old_before (length (old_lines hunk.lines)) ++ (codes " +" ++ range_text hunk.new_before (length (new_lines hunk.lines)))

-- the line before the lines of a hunk
abbrev pub place_text : Bool → Hunk → List ℕ
place_text coloured hunk =
    paint coloured (27 ∷ codes "[36m") ++ (codes "@@ -" ++ (ranges_text hunk ++ (codes " @@" ++ (paint coloured end_code ++ (10 ∷ [])))))

-- a hunk
abbrev pub hunk_text : Bool → Hunk → List ℕ
hunk_text coloured hunk = place_text coloured hunk ++ flat_map (line_text coloured) hunk.lines

-- ---- The names of the texts
-- a control character in three octal digits
abbrev pub octal : ℕ → List ℕ
octal c = (48 + c / 64) ∷ (48 + c / 8 % 8) ∷ (48 + c % 8) ∷ []

abbrev pub quoted_character : ℕ → List ℕ
quoted_character c =
    if nat_eq c 34 then 92 ∷ 34 ∷ []
    else if nat_eq c 92 then 92 ∷ 92 ∷ []
    else if nat_eq c 10 then 92 ∷ 110 ∷ []
    else if nat_eq c 9 then 92 ∷ 116 ∷ []
    else if is_ascii_control c then 92 ∷ octal c else encode_utf8 c

-- a path with such a character is written in quotes
abbrev pub needs_quotes : ℕ → Bool
needs_quotes c = is_ascii_control c || (nat_eq c 34 || nat_eq c 92)

-- a path that isn't in quotes, with a tab after it if it has a blank, by which its end is seen
abbrev pub plain_path : List ℕ → List ℕ
plain_path path = path ++ (if list_any (λ c. nat_eq c 32) path then 9 ∷ [] else [])

-- the path of one of the texts, with `a/` or `b/` before it
abbrev pub path_text : List ℕ → List ℕ → List ℕ
path_text side path =
    if list_any needs_quotes path then 34 ∷ (side ++ (flat_map quoted_character (chars path) ++ (34 ∷ []))) else side ++ plain_path path

abbrev pub name_text : Bool → List ℕ → List ℕ → List ℕ → List ℕ
name_text coloured signs side path = paint coloured (27 ∷ codes "[1m") ++ (signs ++ (path_text side path ++ (paint coloured end_code ++ (10 ∷ []))))

abbrev pub names_text : Bool → List ℕ → List ℕ
names_text coloured path = name_text coloured (codes "--- ") (codes "a/") path ++ name_text coloured (codes "+++ ") (codes "b/") path

-- a diff: nothing without hunks
abbrev pub diff_text : Bool → List ℕ → List Hunk → List ℕ
diff_text coloured path [] = []
diff_text coloured path (hunk ∷ hunks) = names_text coloured path ++ flat_map (hunk_text coloured) (hunk ∷ hunks)

-- The characters are a unified diff of a script, by these hunks. So it takes the old lines to the new ones.
pub record IsUnifiedDiff (coloured : Bool) (path : List ℕ) (script : List DiffLine) (characters : List ℕ) : Type 0 where
  pub hunks : List Hunk
  pub written : characters ≡ diff_text coloured path hunks
  pub parts : AreHunks 0 0 hunks script
  pub applied : TakeTo 0 0 hunks (old_lines script) (new_lines script)
