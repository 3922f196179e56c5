-- What one operation changes.
use Rattle.std.specs.Prelude.{List, [], ◌∷◌, Option, Some, None, refl}
use Rattle.std.specs.Coded.{Coded, code_by, coded×, coded_list}
use Rattle.sno_book.specs.Entries.{Entry, entry_code}

-- the entries before it, and those that it adds: one entry
pub record Change : Type 0 where
  pub before : List Entry
  pub added : List Entry

-- a change is stored as the pair of its fields
abbrev pub change_code : Coded Change
change_code = code_by (List Entry × List Entry) (coded× (coded_list entry_code) (coded_list entry_code)) (λ c. (c.before, c.added)) (λ p. record { before = p.0; added = p.1 }) (λ _. refl)

-- the last of these entries, or the one that came before them
abbrev pub last_after : Option Entry → List Entry → Option Entry
last_after found [] = found
last_after found (entry ∷ entries) = last_after (Some entry) entries

-- the last of these entries
abbrev pub last_of : List Entry → Option Entry
last_of entries = last_after None entries
