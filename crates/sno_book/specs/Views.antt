-- Views: an opening with the entries that followed it.
use Rattle.std.specs.Prelude.{◌≡◌, ◌⊎◌, ◌≤◌, List, length, refl, [], ◌∷◌, ◌++◌}
use Rattle.std.specs.Coded.{Coded, code_by, coded×, coded_list}
use Rattle.sno_book.specs.States.{State}
use Rattle.sno_book.specs.Entries.{Entry, entry_code}
use Rattle.sno_book.specs.Journals.{Legal, replay}
use Rattle.sno_book.specs.Openings.{Opening, IsOpening, opening_code, start}

pub record View : Type 0 where
  pub opening : Opening
  pub journal : List Entry

-- a view is stored as the pair of its fields
abbrev pub view_code : Coded View
view_code = code_by (Opening × List Entry) (coded× opening_code (coded_list entry_code)) (λ v. (v.opening, v.journal)) (λ p. record { opening = p.0; journal = p.1 }) (λ _. refl)

-- the texts after all entries
abbrev pub state_of : View → State
state_of v = replay (start v.opening) v.journal

-- each entry is a step from the texts after those before it, and there is room for all entries
pub record IsValid (v : View) : Type 0 where
  pub opening : IsOpening v.opening
  pub legal : Legal (start v.opening) v.journal
  pub within : length v.journal ≤ v.opening.room

-- the second view has the first one's opening, and its journal begins with the first one's
pub record IsPrefix (earlier later : View) : Type 0 where
  pub opening : later.opening ≡ earlier.opening
  pub more : List Entry
  pub journal : later.journal ≡ earlier.journal ++ more

-- one of the two views begins the other
abbrev pub AreRelated : View → View → Type 0
AreRelated one other = IsPrefix one other ⊎ IsPrefix other one

-- one entry more
abbrev pub and_then : View → Entry → View
and_then v entry = record { opening = v.opening; journal = v.journal ++ entry ∷ [] }
