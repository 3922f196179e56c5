-- The names of definitions, in order.
use Rattle.std.specs.Prelude.{◌≡◌, ℕ, ◌+◌, ◌≤◌, false, List, [], ◌∷◌, ◌++◌, length, nat_lt, Option, Some, None, Result, Ok, Err, if◌then◌else◌}
use Rattle.std.specs.List.{list_any, position_from}
use Rattle.sno_pattern.specs.Identifiers.{same, is_reserved}
use Rattle.sno_pattern.specs.declared.name_list.NamesFault.{NamesFault}
use Rattle.sno_pattern.specs.declared.name_list.NamesFault.TheVariants as fault
use Rattle.sno_pattern.specs.declared.name_list.TheConstants.{MAX_DEFINITIONS}

-- the place of the first name in the list that was seen before, or comes earlier in the list
abbrev pub repeat_from : List (List ℕ) → ℕ → List (List ℕ) → Option ℕ
repeat_from seen place [] = None
repeat_from seen place (name ∷ names) = if list_any (same name) seen then Some place else repeat_from (seen ++ name ∷ []) (place + 1) names

-- the first place that repeats an earlier one
abbrev pub first_repeat : List (List ℕ) → Option ℕ
first_repeat names = repeat_from [] 0 names

-- the place of the first reserved word
abbrev pub first_reserved : List (List ℕ) → Option ℕ
first_reserved names = position_from is_reserved 0 names

-- none of the names is this one
abbrev pub IsNone : List ℕ → List (List ℕ) → Type 0
IsNone x [] = Unit {0}
IsNone x (name ∷ names) = (same name x ≡ false) × IsNone x names

-- no name comes again after its place
abbrev pub AreApart : List (List ℕ) → Type 0
AreApart [] = Unit {0}
AreApart (x ∷ names) = IsNone x names × AreApart names

-- If there is no first repeat, no name is repeated; and if no name is repeated, there is no first repeat.
abbrev pub RepeatsAreFound : Type 0
RepeatsAreFound = (names : List (List ℕ)) → (first_repeat names ≡ None → AreApart names) × (AreApart names → first_repeat names ≡ None)

-- names of definitions: at most 64, no reserved word among them, and no repeated name
pub record AreNames (names : List (List ℕ)) : Type 0 where
  pub few : length names ≤ MAX_DEFINITIONS
  pub unreserved : first_reserved names ≡ None
  pub apart : first_repeat names ≡ None

-- the number of the definition with this name
abbrev pub place_of : List (List ℕ) → List ℕ → Option ℕ
place_of names name = position_from (same name) 0 names

abbrev pub unless_repeated : Option ℕ → List (List ℕ) → Result (List (List ℕ)) NamesFault
unless_repeated None names = Ok names
unless_repeated (Some place) names = Err (fault.Duplicate place)

abbrev pub unless_reserved : Option ℕ → List (List ℕ) → Result (List (List ℕ)) NamesFault
unless_reserved None names = unless_repeated (first_repeat names) names
unless_reserved (Some place) names = Err (fault.Reserved place)

-- what `Names::new` makes of a list if there is memory: at most 64 names, then no reserved word, then no repeated name
abbrev pub names_of : List (List ℕ) → Result (List (List ℕ)) NamesFault
names_of names = if nat_lt MAX_DEFINITIONS (length names) then Err fault.TooMany else unless_reserved (first_reserved names) names

-- Memory is needed only after the length and the reserved words were checked. So `Memory` may come only instead
-- of names or of `Duplicate`.
abbrev pub MayWantMemory : Result (List (List ℕ)) NamesFault → Type 0
MayWantMemory (Ok names) = Unit {0}
MayWantMemory (Err (fault.Duplicate place)) = Unit {0}
MayWantMemory (Err _) = ⊥

-- the result is that of `names_of`, or `Memory` if that may come instead
abbrev pub GivesNames : Result (List (List ℕ)) NamesFault → Result (List (List ℕ)) NamesFault → Type 0
GivesNames (Ok names) wanted = wanted ≡ Ok names
GivesNames (Err fault.Memory) wanted = MayWantMemory wanted
GivesNames (Err fault.TooMany) wanted = wanted ≡ Err fault.TooMany
GivesNames (Err (fault.Reserved place)) wanted = wanted ≡ Err (fault.Reserved place)
GivesNames (Err (fault.Duplicate place)) wanted = wanted ≡ Err (fault.Duplicate place)
