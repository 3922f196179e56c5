-- Members of a JSON object.
use Rattle.std.specs.Prelude.{ℕ, Bool, List, [], ◌∷◌, Option, Some, None, option_and_then, if◌then◌else◌}
use Rattle.std.specs.Option.{option_map}
use Rattle.std.specs.Str.{is_utf8}
use Rattle.serde_json.specs.Data.{Num, Data, null, Items, no_items, item}
use Rattle.serde_json.specs.Read.{read}
use Rattle.serde_json.specs.Find.{get, as_str, as_bool, as_number, as_array}

-- the value that bytes represent, if they are JSON in UTF-8
abbrev pub json_of : List ℕ → Option Data
json_of bytes = if is_utf8 bytes then read bytes else None

-- the elements of an array
abbrev pub elements : Items → List Data
elements no_items = []
elements (item d ds) = d ∷ elements ds

-- the elements of an array, and no elements if the member is missing
abbrev pub array_or_none : Option Data → Option (List Data)
array_or_none None = Some []
array_or_none (Some d) = option_map elements (as_array d)

abbrev pub array_at : List ℕ → Data → Option (List Data)
array_at key d = array_or_none (get key d)

-- a string
abbrev pub string_at : List ℕ → Data → Option (List ℕ)
string_at key d = option_and_then as_str (get key d)

-- a string; `Some None` if the member is missing or null
abbrev pub string_or_none : Option Data → Option (Option (List ℕ))
string_or_none None = Some None
string_or_none (Some null) = Some None
string_or_none (Some d) = option_map (λ s. Some s) (as_str d)

abbrev pub optional_string_at : List ℕ → Data → Option (Option (List ℕ))
optional_string_at key d = string_or_none (get key d)

-- true or false; `Some None` if the member is missing
abbrev pub bool_or_none : Option Data → Option (Option Bool)
bool_or_none None = Some None
bool_or_none (Some d) = option_map (λ b. Some b) (as_bool d)

abbrev pub optional_bool_at : List ℕ → Data → Option (Option Bool)
optional_bool_at key d = bool_or_none (get key d)

-- a number; `Some None` if the member is missing or null
abbrev pub number_or_none : Option Data → Option (Option Num)
number_or_none None = Some None
number_or_none (Some null) = Some None
number_or_none (Some d) = option_map (λ n. Some n) (as_number d)

abbrev pub optional_number_at : List ℕ → Data → Option (Option Num)
optional_number_at key d = number_or_none (get key d)
