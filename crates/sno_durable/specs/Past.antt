-- What came before the first entry of a store, and the numbers that a client is shown.
use Rattle.std.specs.Prelude.{ℕ, ◌+◌, ◌-◌, ◌^◌, Option, Some, None, List, codes, nat_eq, nat_lt, option_and_then, unwrap_or, if◌then◌else◌}
use Rattle.serde_json.specs.Data.{Data, number, array, unsigned, Items, no_items, item}
use Rattle.serde_json.specs.Find.{get, as_array, as_number, as_str, as_u64}
use Rattle.sno_serve.specs.Replies.{with_further}

-- a member that is a whole number
abbrev pub number_at : List ℕ → Data → Option ℕ
number_at key d = option_and_then as_u64 (option_and_then as_number (get key d))

-- a member that is a string
abbrev pub string_at : List ℕ → Data → Option (List ℕ)
string_at key d = option_and_then as_str (get key d)

-- the version that the text of this name had: 0 if there was no such text
abbrev pub version_in : Data → List ℕ → ℕ
version_in versions name = unwrap_or (number_at name versions) 0

-- the same, if a text is named
abbrev pub version_of : Data → Option (List ℕ) → ℕ
version_of versions None = 0
version_of versions (Some name) = version_in versions name

-- a number that is so much higher; it goes no higher than 64 bits do
abbrev pub higher : ℕ → ℕ → ℕ
higher by n = if nat_lt (n + by) (2 ^ 64) then n + by else 2 ^ 64 - 1

-- a number that is so much lower; the highest of all, which no text has as its version, if there is none
abbrev pub lower : ℕ → ℕ → ℕ
lower by n = if nat_lt n by then 2 ^ 64 - 1 else n - by

abbrev pub raised_from : List ℕ → ℕ → Data → Option ℕ → Data
raised_from key by d None = d
raised_from key by d (Some n) = with_further key (number (unsigned (higher by n))) d

-- an object whose member of this name, if it is a whole number, is so much higher
abbrev pub raised : List ℕ → ℕ → Data → Data
raised key by d = raised_from key by d (number_at key d)

-- an entry or a text as a client is shown it: its index and its version go on from what came before
abbrev pub row_shown : ℕ → ℕ → Data → Data
row_shown entries version d = raised (codes "version") version (raised (codes "entry") entries d)

-- the same, of the text that a member names
abbrev pub named_row_shown : ℕ → Data → List ℕ → Data → Data
named_row_shown entries versions key d = row_shown entries (version_of versions (string_at key d)) d

abbrev pub items_shown : ℕ → Data → List ℕ → Items → Items
items_shown entries versions key no_items = no_items
items_shown entries versions key (item d ds) = item (named_row_shown entries versions key d) (items_shown entries versions key ds)

abbrev pub rows_in : ℕ → Data → List ℕ → List ℕ → Data → Option Items → Data
rows_in entries versions list key d None = d
rows_in entries versions list key d (Some rows) = with_further list (array (items_shown entries versions key rows)) d

-- an object whose member of this name, if it is an array, has rows as a client is shown them
abbrev pub rows_shown : ℕ → Data → List ℕ → List ℕ → Data → Data
rows_shown entries versions list key d = rows_in entries versions list key d (option_and_then as_array (get list d))

-- a reply about a text that had this version before, as a client is shown it; so also a listing, and what is about no text. If
-- no entry came before, it is the same
abbrev pub shown : ℕ → Data → ℕ → Data → Data
shown entries versions version d =
    if nat_eq entries 0 then d
    else rows_shown entries versions (codes "texts") (codes "name") (rows_shown entries versions (codes "entries") (codes "text") (row_shown entries version d))
