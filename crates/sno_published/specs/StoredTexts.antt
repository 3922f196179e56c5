-- How a table keeps its texts: each with its version, at the place of its name.
use Rattle.std.specs.Prelude.{◌≡◌, ℕ, List, [], ◌∷◌, length, map}
use Rattle.std.specs.Arc.{arc_value}
use Rattle.sno_book.specs.States.{State, VersionedText}
use Rattle.sno_book.specs.Entries.{Entry}
use Rattle.sno_book.specs.Journals.{Legal, replay}
use Rattle.sno_book.specs.Openings.{Opening, start, names_in}
use Rattle.sno_published.specs.declared.stored_texts.StoredText.{StoredText}

-- a text as it is stored, with its name
abbrev pub called : List ℕ → StoredText → VersionedText
called name stored = record { name = name; text = arc_value stored.text; version = stored.version }

-- these texts, each with the name at its place
abbrev pub named : List (List ℕ) → List StoredText → State
named [] stored = []
named (name ∷ names) [] = []
named (name ∷ names) (s ∷ stored) = called name s ∷ named names stored

-- characters and versions alone
abbrev pub contents : List StoredText → List (List ℕ × ℕ)
contents stored = map (λ s. (arc_value s.text, s.version)) stored

-- the entries are legal from the opening, and what is stored is what they leave
pub record IsReplay (opening : Opening) (entries : List Entry) (stored : List StoredText) : Type 0 where
  pub legal : Legal (start opening) entries
  pub texts : named (names_in opening.texts) stored ≡ replay (start opening) entries
  pub as_many : length stored ≡ length opening.texts
