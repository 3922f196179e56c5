-- Which lines a file holds. A line begins with `{`, 123, and has neither a line feed, 10, nor a NUL, 0. A line feed ends it.
use Rattle.std.specs.Prelude.{◌≡◌, ℕ, false, List, [], ◌∷◌, ◌++◌, replicate, if◌then◌else◌, ◌==◌, ⊤}

-- The lines of the rest of a file, if this much of a line came before it. They end at a byte that begins no line, at a NUL, and at the
-- end of the file. A line that is cut there doesn't count.
abbrev pub lines_after : List ℕ → List ℕ → List (List ℕ)
lines_after begun [] = []
lines_after [] (b ∷ rest) = if b == 123 then lines_after (123 ∷ []) rest else []
lines_after (c ∷ begun) (b ∷ rest) = if b == 10 then (c ∷ begun) ∷ lines_after [] rest else (if b == 0 then [] else lines_after (c ∷ (begun ++ b ∷ [])) rest)

-- the whole lines at the beginning of a file, each without its line feed
abbrev pub recovered : List ℕ → List (List ℕ)
recovered = lines_after []

-- the bytes of these lines, each with its line feed
abbrev pub bytes_of : List (List ℕ) → List ℕ
bytes_of [] = []
bytes_of (line ∷ lines) = line ++ 10 ∷ bytes_of lines

-- neither a line feed nor a NUL
abbrev pub IsPlain : List ℕ → Type 0
IsPlain [] = ⊤
IsPlain (b ∷ rest) = ((b == 10) ≡ false) × ((b == 0) ≡ false) × IsPlain rest

-- a line, without its line feed
abbrev pub IsLine : List ℕ → Type 0
IsLine [] = ⊥
IsLine (b ∷ rest) = (b ≡ 123) × IsPlain rest

-- a file of lines and then nothing but zeros
abbrev pub IsWhole : List ℕ → Type 0
IsWhole file = (n : ℕ) × (file ≡ bytes_of (recovered file) ++ replicate n 0)
