-- Openings: the texts as they were given, and how many entries the journal may hold.
use Rattle.std.specs.Prelude.{◌≡◌, ◌≤◌, ℕ, List, map, length, nat_lt, Option, Some, None, Result, Ok, Err, refl, if◌then◌else◌}
use Rattle.std.specs.Coded.{Coded, code_by, coded×, coded_list, coded_ℕ}
use Rattle.sno_pattern.specs.NameList.{first_repeat, place_of}
use Rattle.std.specs.Arc.{arc_value}
use Rattle.std.specs.declared.sync.Arc.{Arc}
use Rattle.std.proofs.Common.{Global}
use Rattle.sno_book.specs.States.{State}
use Rattle.sno_book.specs.declared.faults.BookFault.{BookFault}
use Rattle.sno_book.specs.declared.faults.BookFault.TheVariants as fault
use Rattle.sno_book.specs.declared.openings.TheConstants.{MAX_TEXTS, MAX_ENTRIES}

-- names with their texts, and the journal's room
pub record Opening : Type 0 where
  pub texts : List (List ℕ × List ℕ)
  pub room : ℕ

-- an opening is stored as the pair of its fields
abbrev pub opening_code : Coded Opening
opening_code =
    code_by (List (List ℕ × List ℕ) × ℕ) (coded× (coded_list (coded× (coded_list coded_ℕ) (coded_list coded_ℕ))) coded_ℕ) (λ o. (o.texts, o.room))
    (λ p. record { texts = p.0; room = p.1 }) (λ _. refl)

abbrev pub names_in : List (List ℕ × List ℕ) → List (List ℕ)
names_in texts = map (λ t. t.0) texts

-- the place of the text of this name, if there is one
abbrev pub place_in : Opening → List ℕ → Option ℕ
place_in opening name = place_of (names_in opening.texts) name

-- all texts begin with version 0
abbrev pub start : Opening → State
start opening = map (λ t. record { name = t.0; text = t.1; version = 0 }) opening.texts

-- at most 1,024 texts, no two of the same name, and room for at most a million entries
pub record IsOpening (opening : Opening) : Type 0 where
  pub few : length opening.texts ≤ MAX_TEXTS
  pub apart : first_repeat (names_in opening.texts) ≡ None
  pub room : opening.room ≤ MAX_ENTRIES

abbrev pub unless_repeated : Option ℕ → List (List ℕ × List ℕ) → ℕ → Result Opening BookFault
unless_repeated None texts room = Ok (record { texts = texts; room = room })
unless_repeated (Some place) texts room = Err (fault.Duplicate place)

-- the opening of these texts, or its first refusal, out of memory aside: more than 1,024 texts, then the first name
-- that an earlier text has
abbrev pub opening_of : List (List ℕ × List ℕ) → ℕ → Result Opening BookFault
opening_of texts room = if nat_lt MAX_TEXTS (length texts) then Err fault.TooMany else unless_repeated (first_repeat (names_in texts)) texts room

-- the program's texts by value
abbrev pub texts_seen : List (List ℕ × Arc (List ℕ) Global) → List (List ℕ × List ℕ)
texts_seen texts = map (λ t. (t.0, arc_value t.1)) texts
