-- What a book starts with: its opening, and the texts with their first versions.
use Rattle.std.specs.Prelude.{◌≡◌, ◌≤◌, ℕ, List, map, length, Result, Ok, Err}
use Rattle.std.specs.Arc.{arc_value}
use Rattle.sno_book.specs.Openings.{opening_of}
use Rattle.sno_book.specs.declared.start.Start.{Start}
use Rattle.sno_book.specs.declared.versioned_texts.VersionedText.{VersionedText as StoredText}
use Rattle.sno_book.specs.declared.faults.BookFault.{BookFault}
use Rattle.sno_book.specs.declared.faults.BookFault.TheVariants as fault
use Rattle.sno_book.specs.declared.openings.TheConstants.{MAX_TEXTS}

-- the characters and versions of texts that are stored
abbrev pub contents : List StoredText → List (List ℕ × ℕ)
contents stored = map (λ s. (arc_value s.text, s.version)) stored

-- the characters as they were given, at version 0
abbrev pub first_contents : List (List ℕ × List ℕ) → List (List ℕ × ℕ)
first_contents texts = map (λ t. (t.1, 0)) texts

-- the result is that of `opening_of`, or out of memory
abbrev pub GivesStart : Result Start BookFault → List (List ℕ × List ℕ) → ℕ → Type 0
GivesStart (Ok start) texts room = opening_of texts room ≡ Ok start.opening
GivesStart (Err fault.TooMany) texts room = opening_of texts room ≡ Err fault.TooMany
GivesStart (Err (fault.Duplicate place)) texts room = opening_of texts room ≡ Err (fault.Duplicate place)
GivesStart (Err fault.Memory) texts room = length texts ≤ MAX_TEXTS
