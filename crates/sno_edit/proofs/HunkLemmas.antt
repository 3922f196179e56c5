-- Scripts and their hunks.
use Rattle.std.proofs.Common.{◌≡◌, ℕ, suc, zero, ◌+◌, ◌-◌, ◌<◌, ◌≤◌, Bool, true, false, ◌&&◌, List, [], ◌∷◌, ◌++◌, length, take, drop, get_or, refl, ap, sym, ◌∙◌, append_assoc, append-nil, arith, length-append, length-drop}
use Rattle.std.proofs.lemmas.List.{length-take-le, take-append-drop, take_all, take_more}
use Rattle.std.proofs.lemmas.List.Folds.{list_all_more}
use Rattle.std.proofs.lemmas.Bool.{and_parts}
use Rattle.std.specs.List.{flat_map, list_all}
use Rattle.sno_edit.proofs.ScriptLemmas.{new_append, old_append}
use Rattle.sno_edit.specs.declared.scripts.DiffLine.{DiffLine}
use Rattle.sno_edit.specs.declared.scripts.Mark.{Mark}
use Rattle.sno_edit.specs.declared.scripts.Mark.TheVariants.{Kept, Removed, Added}
use Rattle.sno_edit.specs.Scripts.{new_lines, new_part, old_lines, old_part}
use Rattle.sno_edit.specs.Hunks.{AreHunks, AreKept, Hunk, IsUnifiedDiff, TakeTo, hunk_at, hunk_text, is_kept, names_text}

-- how many lines each text has of one line more
old_len_at : (sofar : List (List ℕ)) (mark : Mark) (line : List ℕ) → length (sofar ++ (old_part mark (line ∷ []) ++ [])) ≡ length sofar + length (old_part mark (line ∷ []))
old_len_at sofar Kept line = length-append sofar (line ∷ [])
old_len_at sofar Removed line = length-append sofar (line ∷ [])
old_len_at sofar Added line = length-append sofar []

new_len_at : (sofar : List (List ℕ)) (mark : Mark) (line : List ℕ) → length (sofar ++ (new_part mark (line ∷ []) ++ [])) ≡ length sofar + length (new_part mark (line ∷ []))
new_len_at sofar Kept line = length-append sofar (line ∷ [])
new_len_at sofar Removed line = length-append sofar []
new_len_at sofar Added line = length-append sofar (line ∷ [])

old_len_more : (lines : List DiffLine) (i : ℕ) (d : DiffLine) → i < length lines
    → length (old_lines (take (i + 1) lines)) ≡ length (old_lines (take i lines)) + length (old_part (get_or lines i d).mark ((get_or lines i d).text.now ∷ []))
old_len_more lines i d lt =
    ap (λ l. length (old_lines l)) (take_more lines i d lt) ∙ ap length (old_append (take i lines) (get_or lines i d ∷ []))
    ∙ old_len_at (old_lines (take i lines)) (get_or lines i d).mark (get_or lines i d).text.now

new_len_more : (lines : List DiffLine) (i : ℕ) (d : DiffLine) → i < length lines
    → length (new_lines (take (i + 1) lines)) ≡ length (new_lines (take i lines)) + length (new_part (get_or lines i d).mark ((get_or lines i d).text.now ∷ []))
new_len_more lines i d lt =
    ap (λ l. length (new_lines l)) (take_more lines i d lt) ∙ ap length (new_append (take i lines) (get_or lines i d ∷ []))
    ∙ new_len_at (new_lines (take i lines)) (get_or lines i d).mark (get_or lines i d).text.now

pub old_counted : (lines : List DiffLine) (i : ℕ) (d : DiffLine) (count one : ℕ) → i < length lines → count ≡ length (old_lines (take i lines))
    → ((line : List ℕ) → one ≡ length (old_part (get_or lines i d).mark (line ∷ []))) → count + one ≡ length (old_lines (take (i + 1) lines))
old_counted lines i d count one lt so is = omega (arith, old_len_more lines i d lt, so, is (get_or lines i d).text.now)

pub new_counted : (lines : List DiffLine) (i : ℕ) (d : DiffLine) (count one : ℕ) → i < length lines → count ≡ length (new_lines (take i lines))
    → ((line : List ℕ) → one ≡ length (new_part (get_or lines i d).mark (line ∷ []))) → count + one ≡ length (new_lines (take (i + 1) lines))
new_counted lines i d count one lt so is = omega (arith, new_len_more lines i d lt, so, is (get_or lines i d).text.now)

-- ---- Lines that both texts have
abbrev kept_line : DiffLine → Bool
kept_line line = is_kept line.mark

-- the first of them are kept too
pub kept_fewer : (m n : ℕ) (lines : List DiffLine) → m ≤ n → AreKept (take n lines) → AreKept (take m lines)
kept_fewer zero n lines le kept = refl
kept_fewer (suc m) zero lines le kept = absurd (omega (arith, le))
kept_fewer (suc m) (suc n) [] le kept = refl
kept_fewer (suc m) (suc n) (line ∷ lines) le kept =
    let parts = and_parts (is_kept line.mark) (list_all kept_line (take n lines)) kept in
    ap (λ b. b && list_all kept_line (take m lines)) parts.0 ∙ kept_fewer m n lines (omega (arith, le)) parts.1

pub kept_whole : (n : ℕ) (lines : List DiffLine) → length lines ≤ n → AreKept (take n lines) → AreKept lines
kept_whole n lines le kept = sym (ap (λ l. list_all kept_line l) (take_all n lines le)) ∙ kept

-- a change isn't among them
both : (a b : Bool) → (a && b) ≡ true → b ≡ false → ⊥
both true true h is = cc
both true false h is = cc
both false b h is = cc

pub no_change : (lines : List DiffLine) (i : ℕ) (d : DiffLine) → i < length lines → is_kept (get_or lines i d).mark ≡ false → AreKept lines → ⊥
no_change lines i d lt is kept =
    let all : AreKept (take (length lines) lines) = ap (λ l. list_all kept_line l) (take_all (length lines) lines (omega arith)) ∙ kept in
    both (list_all kept_line (take i lines)) (is_kept (get_or lines i d).mark)
    (sym (list_all_more kept_line lines i d lt) ∙ kept_fewer (i + 1) (length lines) lines (omega (arith, lt)) all) is

kept_at : (mark : Mark) (all : Bool) (line : List ℕ) (olds news : List (List ℕ)) → (is_kept mark && all) ≡ true → (all ≡ true → olds ≡ news)
    → old_part mark (line ∷ []) ++ olds ≡ new_part mark (line ∷ []) ++ news
kept_at Kept all line olds news h more = ap (λ t. line ∷ t) (more h)
kept_at Removed all line olds news h more = cc
kept_at Added all line olds news h more = cc

pub kept_same : (lines : List DiffLine) → AreKept lines → old_lines lines ≡ new_lines lines
kept_same [] kept = refl
kept_same (line ∷ lines) kept = kept_at line.mark (list_all kept_line lines) line.text.now (old_lines lines) (new_lines lines) kept (kept_same lines)

kept_len_at : (mark : Mark) (all : Bool) (line : List ℕ) (olds : List (List ℕ)) (n : ℕ) → (is_kept mark && all) ≡ true → (all ≡ true → length olds ≡ n)
    → length (old_part mark (line ∷ []) ++ olds) ≡ suc n
kept_len_at Kept all line olds n h more = ap suc (more h)
kept_len_at Removed all line olds n h more = cc
kept_len_at Added all line olds n h more = cc

pub kept_length : (lines : List DiffLine) → AreKept lines → length (old_lines lines) ≡ length lines
kept_length [] kept = refl
kept_length (line ∷ lines) kept = kept_len_at line.mark (list_all kept_line lines) line.text.now (old_lines lines) (length lines) kept (kept_length lines)

-- ---- Hunks
-- the hunks of a script take the old lines to the new ones
pub hunks_apply : (o n : ℕ) (hunks : List Hunk) (script : List DiffLine) → AreHunks o n hunks script → TakeTo o n hunks (old_lines script) (new_lines script)
hunks_apply o n [] script kept = sym (kept_same script kept)
hunks_apply o n (hunk ∷ hunks) script (between, rest, is, kept, old_before, new_before, more) = (
  old_lines between,
  old_lines rest,
  new_lines rest,
  old_before ∙ ap (λ k. o + k) (sym (kept_length between kept)),
  new_before ∙ ap (λ k. n + k) (sym (kept_length between kept)),
  ap old_lines is ∙ old_append between (hunk.lines ++ rest) ∙ ap (λ t. old_lines between ++ t) (old_append hunk.lines rest),
  ap new_lines is ∙ new_append between (hunk.lines ++ rest) ∙ ap (λ t. new_lines between ++ t) (new_append hunk.lines rest)
      ∙ ap (λ t. t ++ (new_lines hunk.lines ++ new_lines rest)) (sym (kept_same between kept)),
  hunks_apply (hunk.old_before + length (old_lines hunk.lines)) (hunk.new_before + length (new_lines hunk.lines)) hunks rest more,
)

-- a text has no more lines than its script
old_len_by : (mark : Mark) (line : List ℕ) (olds : List (List ℕ)) (n : ℕ) → length olds ≤ n → length (old_part mark (line ∷ []) ++ olds) ≤ suc n
old_len_by Kept line olds n h = omega (arith, h)
old_len_by Removed line olds n h = omega (arith, h)
old_len_by Added line olds n h = omega (arith, h)

pub old_fewer : (lines : List DiffLine) → length (old_lines lines) ≤ length lines
old_fewer [] = omega arith
old_fewer (line ∷ lines) = old_len_by line.mark line.text.now (old_lines lines) (length lines) (old_fewer lines)

new_len_by : (mark : Mark) (line : List ℕ) (news : List (List ℕ)) (n : ℕ) → length news ≤ n → length (new_part mark (line ∷ []) ++ news) ≤ suc n
new_len_by Kept line news n h = omega (arith, h)
new_len_by Removed line news n h = omega (arith, h)
new_len_by Added line news n h = omega (arith, h)

pub new_fewer : (lines : List DiffLine) → length (new_lines lines) ≤ length lines
new_fewer [] = omega arith
new_fewer (line ∷ lines) = new_len_by line.mark line.text.now (new_lines lines) (length lines) (new_fewer lines)

-- counted on, the lines left still fit
pub fits_more : (o p place count total : ℕ) (rest after olds more : List DiffLine) (a b : ℕ) → o + length rest ≤ total → place + count ≤ length rest
    → after ≡ drop count (drop place rest) → olds ≡ take place rest → more ≡ take count (drop place rest) → a ≤ length olds → b ≤ length more → p ≡ o + a + b
    → p + length after ≤ total
fits_more o p place count total rest after olds more a b fits within is front hunk le less past =
    let first : length olds ≡ place = ap length front ∙ length-take-le place rest (omega (arith, within)) in
    let left : length (drop place rest) ≡ length rest - place = length-drop place rest in
    let next : length more ≡ count = ap length hunk ∙ length-take-le count (drop place rest) (omega (arith, within, left)) in
    let last : length after ≡ length rest - place - count = ap length is ∙ length-drop count (drop place rest) ∙ ap (λ k. k - count) left in
    omega (arith, fits, within, le, less, past, first, next, last)

-- one hunk more
pub hunk_more : (o n p q place count : ℕ) (sofar : List Hunk) (script rest after : List DiffLine)
    → ((later : List Hunk) → AreHunks o n later rest → AreHunks 0 0 (sofar ++ later) script)
    → AreKept (take place rest) → after ≡ drop count (drop place rest)
    → p ≡ o + length (old_lines (take place rest)) + length (old_lines (take count (drop place rest)))
    → q ≡ n + length (new_lines (take place rest)) + length (new_lines (take count (drop place rest)))
    → (later : List Hunk) → AreHunks p q later after → AreHunks 0 0 ((sofar ++ hunk_at o n place count rest ∷ []) ++ later) script
hunk_more o n p q place count sofar script rest after so kept is past_old past_new later more =
    let hunk : Hunk = hunk_at o n place count rest in
    let parts : rest ≡ take place rest ++ (take count (drop place rest) ++ drop count (drop place rest)) =
    sym (ap (λ t. take place rest ++ t) (take-append-drop count (drop place rest)) ∙ take-append-drop place rest) in
    let here : AreHunks (hunk.old_before + length (old_lines hunk.lines)) (hunk.new_before + length (new_lines hunk.lines)) later (drop count (drop place rest)) =
    rw (← past_old, ← past_new, ← is) more in
    let same : length (new_lines (take place rest)) ≡ length (take place rest) = ap length (sym (kept_same (take place rest) kept)) ∙ kept_length (take place rest) kept in
    rw append_assoc (so (hunk ∷ later) (
      take place rest,
      drop count (drop place rest),
      parts,
      kept,
      ap (λ k. o + k) (kept_length (take place rest) kept),
      ap (λ k. n + k) same,
      here,
    ))

-- a script with a change has hunks, and the names before them
pub whole_diff : (coloured : Bool) (path : List ℕ) (script : List DiffLine) (hunks : List Hunk) (characters : List ℕ) → (AreKept script → ⊥)
    → AreHunks 0 0 hunks script → characters ≡ names_text coloured path ++ flat_map (hunk_text coloured) hunks → IsUnifiedDiff coloured path script characters
whole_diff coloured path script [] characters change parts is = absurd (change parts)
whole_diff coloured path script (hunk ∷ hunks) characters change parts is =
    record { hunks = hunk ∷ hunks; written = is; parts = parts; applied = hunks_apply 0 0 (hunk ∷ hunks) script parts }

pub no_diff : (coloured : Bool) (path : List ℕ) (script : List DiffLine) (characters : List ℕ) → AreKept script → characters ≡ [] → IsUnifiedDiff coloured path script characters
no_diff coloured path script characters kept is = record { hunks = []; written = is; parts = kept; applied = hunks_apply 0 0 [] script kept }
