-- Worked examples: each is proved by computing from the definitions alone. They can be compared with what `diff -u` writes.
use Rattle.std.specs.Prelude.{◌≡◌, ℕ, true, false, List, [], ◌∷◌, ◌++◌, Some, None, codes, refl}
use lib.Utf8.{encode}
use Rattle.std.specs.Fmt.{digits}
use Rattle.std.specs.Str.{chars, is_utf8}
use Rattle.std.specs.Str.Lossy.{utf8_valid_len}
use Rattle.sno_pattern.specs.declared.byte_texts.TheConstants.{MAX_BYTES}
use Rattle.sno_edit.specs.declared.trials.Trials.TheVariants.{Usual, AtMost}
use Rattle.sno_edit.specs.declared.scripts.DiffLine.{DiffLine}
use Rattle.sno_edit.specs.declared.scripts.Mark.{Mark}
use Rattle.sno_edit.specs.declared.scripts.Mark.TheVariants.{Kept, Removed, Added}
use Rattle.sno_edit.specs.Positions.{position_of}
use Rattle.sno_edit.specs.Scripts.{lines_in, new_lines, old_lines}
use Rattle.sno_edit.specs.Trials.{trials_for}
use Rattle.sno_edit.specs.Utf8.{cut_at}
use Rattle.sno_edit.specs.Hunks.{AreHunks, Hunk, TakeTo, bare, has_line_feed, hunk_text, line_text, path_text, plain_path, range_text, unended}

-- characters with a line feed after them
abbrev ended : List ℕ → List ℕ
ended characters = characters ++ (10 ∷ [])

abbrev marked : Mark → List ℕ → DiffLine
marked mark characters = record { mark = mark; text = record { ref_ptr = (0, 0); now = characters } }

-- ---- Lines
two_lines : lines_in (ended (codes "a") ++ codes "b") ≡ ended (codes "a") ∷ codes "b" ∷ []
two_lines = refl

without_its_line_feed : bare (ended (codes "a")) ≡ codes "a"
without_its_line_feed = refl

without_any : bare (codes "a") ≡ codes "a"
without_any = refl

empty_line_has_none : has_line_feed [] ≡ false
empty_line_has_none = refl

-- ---- Which lines a hunk has: no line, after the fourth; the fifth; the fifth to the seventh
no_line : range_text 4 0 ≡ codes "4,0"
unfolding digits
no_line = refl

one_line : range_text 4 1 ≡ codes "5"
unfolding digits
one_line = refl

three_lines : range_text 4 3 ≡ codes "5,3"
unfolding digits
three_lines = refl

-- ---- A hunk. The old text is `a`, `b`, each with its line feed; the new one is `a` with its line feed and `c` without.
abbrev changed : Hunk
changed = record { old_before = 0; new_before = 0; lines = marked Kept (ended (codes "a")) ∷ marked Removed (ended (codes "b")) ∷ marked Added (codes "c") ∷ [] }

old_of_changed : old_lines changed.lines ≡ ended (codes "a") ∷ ended (codes "b") ∷ []
old_of_changed = refl

new_of_changed : new_lines changed.lines ≡ ended (codes "a") ∷ codes "c" ∷ []
new_of_changed = refl

changed_is_written : hunk_text false changed
    ≡ ended (codes "@@ -1,2 +1,2 @@") ++ (ended (codes " a") ++ (ended (codes "-b") ++ (ended (codes "+c") ++ (92 ∷ ended (codes " No newline at end of file")))))
unfolding digits
changed_is_written = refl

-- on a terminal a removed line is red
removed_in_colour : line_text true (marked Removed (ended (codes "b"))) ≡ (27 ∷ codes "[31m") ++ (codes "-b" ++ ended (27 ∷ codes "[m"))
removed_in_colour = refl

-- ---- What hunks make of lines: the second of three lines is taken away, and one comes after the third
abbrev taken : Hunk
taken = record { old_before = 1; new_before = 1; lines = marked Removed (ended (codes "b")) ∷ [] }

abbrev put : Hunk
put = record { old_before = 3; new_before = 2; lines = marked Added (ended (codes "d")) ∷ [] }

abbrev abc : List (List ℕ)
abc = ended (codes "a") ∷ ended (codes "b") ∷ ended (codes "c") ∷ []

abbrev acd : List (List ℕ)
acd = ended (codes "a") ∷ ended (codes "c") ∷ ended (codes "d") ∷ []

one_goes_one_comes : TakeTo 0 0 (taken ∷ put ∷ []) abc acd
one_goes_one_comes = (
  ended (codes "a") ∷ [],
  ended (codes "c") ∷ [],
  ended (codes "c") ∷ ended (codes "d") ∷ [],
  refl,
  refl,
  refl,
  refl,
  (ended (codes "c") ∷ [], [], [], refl, refl, refl, refl, refl),
)

-- ---- Paths
plain : path_text (codes "a/") (codes "x.c") ≡ codes "a/x.c"
plain = refl

blank_with_tab : path_text (codes "b/") (codes "x y") ≡ codes "b/x y" ++ (9 ∷ [])
blank_with_tab = refl

quoted : path_text (codes "a/") (120 ∷ 34 ∷ 1 ∷ []) ≡ 34 ∷ (codes "a/x" ++ (92 ∷ 34 ∷ 92 ∷ (codes "001" ++ (34 ∷ []))))
unfolding chars encode
quoted = refl

-- ---- Trials: on an empty text, on 3,905 bytes and one more, on 65,536 bytes, on the longest texts, and as they were asked for
on_nothing : trials_for Usual 0 ≡ 1000000
on_nothing = refl

on_few : trials_for Usual 3905 ≡ 1000000
on_few = refl

on_one_more : trials_for Usual 3906 ≡ 1000192
on_one_more = refl

on_a_text_of_documents : trials_for Usual 65536 ≡ 16777472
on_a_text_of_documents = refl

on_all_but_two : trials_for Usual 16777214 ≡ 4294967040
on_all_but_two = refl

on_all_but_one : trials_for Usual 16777215 ≡ 4294967295
on_all_but_one = refl

on_the_longest : trials_for Usual MAX_BYTES ≡ 4294967295
on_the_longest = refl

as_asked_for : trials_for (AtMost 7) MAX_BYTES ≡ 7
as_asked_for = refl

-- ---- Places and UTF-8. The bytes 195 and 169 are the character `é`, which is 233 in Latin-1.
abbrev cafe : List ℕ
cafe = ended (codes "a") ++ (codes "caf" ++ (195 ∷ 169 ∷ codes "!"))

-- the exclamation mark is the fifth character of the second line
fifth_of_the_second : position_of cafe 7 ≡ record { place = 7; line = 2; column = 5 }
fifth_of_the_second = refl

first_of_all : position_of cafe 0 ≡ record { place = 0; line = 1; column = 1 }
first_of_all = refl

-- without the first of its bytes the character is cut, at the place of the other
cut_at_its_end : cut_at cafe (codes "caf" ++ (169 ∷ [])) ≡ Some 3
unfolding is_utf8 utf8_valid_len chars encode
cut_at_its_end = refl

nothing_cut : cut_at cafe (codes "caf" ++ (195 ∷ 169 ∷ [])) ≡ None
unfolding is_utf8 chars encode
nothing_cut = refl

-- of a text that isn't UTF-8 nothing is cut
latin_1 : cut_at (codes "caf" ++ (233 ∷ [])) (codes "caf" ++ (169 ∷ [])) ≡ None
unfolding is_utf8 chars encode
latin_1 = refl
