-- Names of variables and definitions.
use Rattle.std.specs.Prelude.{ℕ, Bool, false, ◌&&◌, ◌||◌, List, [], ◌∷◌, length, nat_eq, nat_lt, Option, Some, None, if◌then◌else◌, codes}
use Rattle.std.specs.List.{list_any, list_all}
use Rattle.std.specs.Cmp.Lexicographic.{pointwise}
use Rattle.std.specs.Char.{is_ascii_alphabetic, is_ascii_alphanumeric}
use Rattle.sno_pattern.specs.declared.identifiers.TheConstants.{MAX_NAME}

-- what may follow the first letter of a name: a letter, a digit, a period or an underscore
unfoldable pub is_name_char : ℕ → Bool
is_name_char c = is_ascii_alphanumeric c || (nat_eq c 46 || nat_eq c 95)

-- a letter
unfoldable pub is_letter : ℕ → Bool
is_letter c = is_ascii_alphabetic c

-- a name: a letter, then characters of names, at most 64 in all
abbrev pub is_name : List ℕ → Bool
is_name [] = false
is_name (c ∷ cs) = is_letter c && (list_all is_name_char cs && nat_lt (length cs) MAX_NAME)

-- what `Name::read` makes of bytes
abbrev pub name_of : List ℕ → Option (List ℕ)
name_of bytes = if is_name bytes then Some bytes else None

-- the same characters
abbrev pub same : List ℕ → List ℕ → Bool
same = pointwise nat_eq

-- the names of primitives, which no variable and no definition may have as its name
abbrev pub reserved_words : List (List ℕ)
reserved_words =
    codes "ARB" ∷ codes "BAL" ∷ codes "REM" ∷ codes "FENCE" ∷ codes "ABORT" ∷ codes "FAIL" ∷ codes "LEN" ∷ codes "POS"
    ∷ codes "RPOS" ∷ codes "TAB" ∷ codes "RTAB" ∷ codes "ANY" ∷ codes "NOTANY" ∷ codes "SPAN" ∷ codes "BREAK" ∷ codes "ARBNO" ∷ []

-- one of the sixteen reserved words
unfoldable pub is_reserved : List ℕ → Bool
is_reserved name = list_any (same name) reserved_words
