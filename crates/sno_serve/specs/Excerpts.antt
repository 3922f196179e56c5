-- Entries of the journal that a line asks for.
use Rattle.std.specs.Prelude.{ℕ, ◌+◌, Bool, true, List, [], ◌∷◌, take, drop, Option, Some, None, nat_lt, if◌then◌else◌}
use Rattle.serde_json.specs.Data.{Data}
use Rattle.sno_pattern.specs.Identifiers.{same}
use Rattle.sno_book.specs.Entries.{Entry}
use Rattle.sno_listing.specs.JsonListing.{entry_data}
use Rattle.sno_serve.specs.declared.excerpt.Excerpt.{Excerpt}

-- the entry is of the text of this name, or no text is named
abbrev pub is_of : Option (List ℕ) → Entry → Bool
is_of None e = true
is_of (Some name) e = same e.statement.text name

-- the entries from an index on, each at its index, without those of other texts
abbrev pub rows_of : Option (List ℕ) → ℕ → List Entry → List Data
rows_of name index [] = []
rows_of name index (e ∷ entries) = if is_of name e then entry_data index e ∷ rows_of name (index + 1) entries else rows_of name (index + 1) entries

-- how many of `count` entries may be listed
abbrev pub most_of : Option ℕ → ℕ → ℕ
most_of None count = count
most_of (Some n) count = if nat_lt n count then n else count

-- no more than the limit
abbrev pub up_to : Option ℕ → List Data → List Data
up_to None ds = ds
up_to (Some n) ds = take n ds

-- the entries of the journal from an index on, as the line wants them
abbrev pub excerpt_of : Excerpt → ℕ → List Entry → List Data
excerpt_of e from journal = up_to e.limit (rows_of e.name from (drop from journal))
