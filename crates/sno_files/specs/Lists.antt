-- Lists of paths, as other programs write them: after each path one byte, such as a line feed or NUL.
use Rattle.std.specs.Prelude.{◌≡◌, ◌+◌, ◌==◌, ◌++◌, ℕ, List, [], ◌∷◌, Option, None, Some, length, if◌then◌else◌, IsUtf8, Bool}
use Rattle.sno_files.specs.declared.lists.ListFault.{ListFault}
use Rattle.sno_files.specs.declared.lists.ListFault.TheVariants as fault

-- the first of these pieces with one byte more before it
abbrev pub lengthened : ℕ → List (List ℕ) → List (List ℕ)
lengthened byte [] = (byte ∷ []) ∷ []
lengthened byte (piece ∷ more) = (byte ∷ piece) ∷ more

-- whether a path ends with this byte
abbrev pub is_end : ℕ → ℕ → Bool
is_end end byte = byte == end

-- what comes before each byte `end` of a list, and after the last
abbrev pub pieces : ℕ → List ℕ → List (List ℕ)
pieces end [] = [] ∷ []
pieces end (byte ∷ list) = if is_end end byte then [] ∷ pieces end list else lengthened byte (pieces end list)

-- the pieces of what is left of a list; none once its last piece was taken
abbrev pub pieces_left : ℕ → Option (List ℕ) → List (List ℕ)
pieces_left end None = []
pieces_left end (Some list) = pieces end list

-- how much is left of a list: less with each piece that is taken
abbrev pub bytes_left : Option (List ℕ) → ℕ
bytes_left None = 0
bytes_left (Some list) = length list + 1

-- those of the pieces that are not empty
abbrev pub named : List (List ℕ) → List (List ℕ)
named [] = []
named ([] ∷ more) = named more
named ((byte ∷ piece) ∷ more) = (byte ∷ piece) ∷ named more

-- the paths of a list
abbrev pub paths_of : ℕ → List ℕ → List (List ℕ)
paths_of end list = named (pieces end list)

-- these paths, and the one that a piece is
abbrev pub with_piece : List (List ℕ) → List ℕ → List (List ℕ)
with_piece paths piece = paths ++ named (piece ∷ [])

-- why a piece is no path, after this many
abbrev pub HasPieceCause : ℕ → List ℕ → ListFault → Type 0
HasPieceCause before piece (fault.NotUtf8 number) = (number ≡ before + 1) × (named (piece ∷ []) ≡ piece ∷ []) × ¬ (IsUtf8 piece)
HasPieceCause before piece fault.Memory = Unit {0}

-- each of these is UTF-8
abbrev pub AreUtf8 : List (List ℕ) → Type 0
AreUtf8 [] = Unit {0}
AreUtf8 (path ∷ paths) = IsUtf8 path × AreUtf8 paths

-- Why there is no list of these paths. The path with the number, counted from 1, is the first that is not UTF-8.
abbrev pub HasListCause : List (List ℕ) → ListFault → Type 0
HasListCause paths (fault.NotUtf8 number) =
    (before : List (List ℕ)) × (bad : List ℕ) × (after : List (List ℕ))
    × (paths ≡ before ++ bad ∷ after) × (number ≡ length before + 1) × AreUtf8 before × ¬ (IsUtf8 bad)
HasListCause paths fault.Memory = Unit {0}
