-- What comes after the lines: what a crash can have left of one batch.
use Rattle.std.specs.Prelude.{ℕ, Bool, true, false, List, [], ◌∷◌, ◌++◌, ◌==◌, ◌&&◌, not, if◌then◌else◌, nat_eq}
use Rattle.std.specs.Cmp.Lexicographic.{pointwise}
use Rattle.std.specs.List.{starts_with, list_all}
use Rattle.sno_sealed.specs.Chains.{looks_sealed}

-- whether a byte is among these, and what comes before and after the first such place
abbrev pub has : ℕ → List ℕ → Bool
has b [] = false
has b (x ∷ xs) = if x == b then true else has b xs

abbrev pub before : ℕ → List ℕ → List ℕ
before b [] = []
before b (x ∷ xs) = if x == b then [] else x ∷ before b xs

abbrev pub after : ℕ → List ℕ → List ℕ
after b [] = []
after b (x ∷ xs) = if x == b then xs else after b xs

-- what comes after the last such place
abbrev pub after_last : ℕ → List ℕ → List ℕ
after_last b [] = []
after_last b (x ∷ xs) = if has b xs then after_last b xs else xs

-- Whether a line has three numbers after its last `[`, up to the `]` after them; its own number, and those of the first and the last line of
-- its batch.
unfoldable pub has_numbers : List ℕ → Bool
has_numbers line = has 91 line && (has 44 (after_last 91 line) && (has 44 (after 44 (after_last 91 line)) && has 93 (after 44 (after 44 (after_last 91 line)))))

unfoldable pub number_in : List ℕ → List ℕ
number_in line = before 44 (after_last 91 line)

unfoldable pub first_in : List ℕ → List ℕ
first_in line = before 44 (after 44 (after_last 91 line))

unfoldable pub last_in : List ℕ → List ℕ
last_in line = before 93 (after 44 (after 44 (after_last 91 line)))

-- Whether bytes that a line feed ends are of another batch than the one whose first line has this number. A line without a sum is of none, if
-- the bytes are a whole one. The rest of a line that a crash has cut has its numbers, or says nothing.
unfoldable pub is_other : List ℕ → Bool → List ℕ → Bool
is_other first begins piece = if looks_sealed piece then has_numbers piece && not (pointwise nat_eq (first_in piece) first) else begins && starts_with nat_eq piece (123 ∷ [])

-- whether they are the end of the last line of a batch
unfoldable pub ends_batch : List ℕ → Bool
ends_batch piece = looks_sealed piece && (has_numbers piece && pointwise nat_eq (number_in piece) (last_in piece))

-- Whether the rest of a tail can be of the batch whose first line has this number: up to each line feed there is nothing of another batch,
-- and after the last line of this one nothing but zeros. Bytes have come since the last line feed or zero; `begins` says whether a line begins
-- with them, `lines` whether one may.
abbrev pub is_tear_on : List ℕ → Bool → Bool → List ℕ → List ℕ → Bool
is_tear_on first lines begins piece [] = true
is_tear_on first lines begins piece (b ∷ rest) =
    if b == 10
    then (if is_other first begins piece then false else (if ends_batch piece then list_all (λ x. x == 0) rest else is_tear_on first lines lines [] rest))
    else (if b == 0 then is_tear_on first lines false [] rest else is_tear_on first lines begins (piece ++ b ∷ []) rest)

-- what comes after lines, or after none, can be of this batch
abbrev pub is_tear : List ℕ → Bool → List ℕ → Bool
is_tear first lines tail = is_tear_on first lines lines [] tail
