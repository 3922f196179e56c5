-- Books by value.
use Rattle.std.specs.Prelude.{◌≡◌, ◌≤◌, ℕ, List, [], length, Result, Ok, Err, refl}
use Rattle.std.specs.Coded.{Coded, code_by, coded×, coded_list, coded_ℕ}
use Rattle.sno_book.specs.Entries.{Entry, entry_code}
use Rattle.sno_book.specs.Openings.{Opening, opening_code, opening_of}
use Rattle.sno_book.specs.Views.{View}
use Rattle.sno_book.specs.declared.faults.BookFault.{BookFault}
use Rattle.sno_book.specs.declared.faults.BookFault.TheVariants as fault
use Rattle.sno_book.specs.declared.openings.TheConstants.{MAX_TEXTS}

-- an opening with the entries that followed it, and the number of further entries for which memory is kept
pub record Book : Type 0 where
  pub opening : Opening
  pub journal : List Entry
  pub spare : ℕ

-- a book is stored as the tuple of its fields
abbrev pub book_code : Coded Book
book_code =
    code_by (Opening × (List Entry × ℕ)) (coded× opening_code (coded× (coded_list entry_code) coded_ℕ)) (λ b. (b.opening, (b.journal, b.spare)))
    (λ p. record { opening = p.0; journal = p.1.0; spare = p.1.1 }) (λ _. refl)

-- what a caller sees of a book, whatever memory it keeps
abbrev pub view_of : Book → View
view_of b = record { opening = b.opening; journal = b.journal }

-- a book of these texts has that opening and no entries
abbrev pub OpensBook : Result Book BookFault → List (List ℕ × List ℕ) → ℕ → Type 0
OpensBook (Ok b) texts room = (opening_of texts room ≡ Ok b.opening) × (b.journal ≡ [])
OpensBook (Err fault.TooMany) texts room = opening_of texts room ≡ Err fault.TooMany
OpensBook (Err (fault.Duplicate place)) texts room = opening_of texts room ≡ Err (fault.Duplicate place)
OpensBook (Err fault.Memory) texts room = length texts ≤ MAX_TEXTS
