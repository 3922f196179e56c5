-- Findings as JSON.
use Rattle.std.specs.Prelude.{ℕ, ◌+◌, ◌/◌, ◌%◌, ◌||◌, List, [], ◌∷◌, ◌++◌, codes, nat_eq, nat_lt, if◌then◌else◌}
use Rattle.std.specs.Fmt.{decimal}
use Rattle.std.specs.List.{flat_map}
use Rattle.std.specs.Str.Lossy.{utf8_lossy}
use Rattle.sno_pattern.specs.Ends.{part}
use Rattle.sno_statement.specs.Bindings.{Bindings}
use Rattle.sno_statement.specs.declared.binding.Datum.{Datum}
use Rattle.sno_statement.specs.declared.binding.Datum.TheVariants.{Str, Int}
use Rattle.sno_find.specs.declared.findings.Finding.{Finding}

-- a hexadecimal digit, in lower case
abbrev pub hex_digit : ℕ → ℕ
hex_digit d = if nat_lt d 10 then d + 48 else d + 87

-- a byte of a string: a quote and a backslash after a backslash, and a control character by its number
abbrev pub json_byte : ℕ → List ℕ
json_byte b =
    if nat_eq b 34 || nat_eq b 92 then 92 ∷ b ∷ []
    else if nat_lt b 32 then 92 ∷ 117 ∷ 48 ∷ 48 ∷ hex_digit (b / 16) ∷ hex_digit (b % 16) ∷ [] else b ∷ []

-- bytes as a string. What isn't UTF-8 in them becomes U+FFFD.
abbrev pub json_string : List ℕ → List ℕ
json_string bytes = 34 ∷ [] ++ (flat_map json_byte (utf8_lossy bytes) ++ (34 ∷ []))

-- the name of a member, with its quotes and its colon
abbrev pub key : List ℕ → List ℕ
key name = 34 ∷ [] ++ (name ++ (34 ∷ 58 ∷ []))

-- a member that is a number, after another member
abbrev pub number_member : List ℕ → ℕ → List ℕ
number_member name n = codes "," ++ (key name ++ decimal n)

-- the value of a variable: a string, or a number
abbrev pub value_json : Datum → List ℕ
value_json (Str bytes) = json_string bytes
value_json (Int n) = decimal n

-- what comes before a member at this place
abbrev pub separator : ℕ → List ℕ
separator place = if nat_eq place 0 then [] else codes ","

-- a variable with its value, at this place
abbrev pub variable_json : ℕ → List ℕ × Datum → List ℕ
variable_json place b = separator place ++ (json_string b.0 ++ (codes ":" ++ value_json b.1))

-- variables from this place on, in the order of their first assignment
abbrev pub variables_json : ℕ → Bindings → List ℕ
variables_json place [] = []
variables_json place (b ∷ bound) = variable_json place b ++ variables_json (place + 1) bound

-- the first members: the path and the number of the statement
unfoldable pub head_json : List ℕ → ℕ → List ℕ
head_json path statement = codes "{" ++ (key (codes "path") ++ (json_string path ++ number_member (codes "statement") statement))

-- where a match is: its bytes, and the line and the column of its start
unfoldable pub places_json : Finding → List ℕ
places_json f =
    number_member (codes "start") f.start.place ++ (number_member (codes "end") f.end ++ (number_member (codes "line") f.start.line
    ++ number_member (codes "column") f.start.column))

-- what was matched
unfoldable pub text_json : List ℕ → List ℕ
text_json bytes = codes "," ++ (key (codes "text") ++ json_string bytes)

-- the variables as an object
unfoldable pub object_json : Bindings → List ℕ
object_json bound = codes "{" ++ (variables_json 0 bound ++ codes "}")

unfoldable pub bindings_json : Bindings → List ℕ
bindings_json bound = codes "," ++ (key (codes "variables") ++ object_json bound)

-- a finding: an object, and a line feed
abbrev pub finding_json : List ℕ → List ℕ → Finding → List ℕ
finding_json path text f =
    head_json path f.statement ++ (places_json f ++ (text_json (part text f.start.place f.end) ++ (bindings_json f.bindings ++ (125 ∷ 10 ∷ []))))
