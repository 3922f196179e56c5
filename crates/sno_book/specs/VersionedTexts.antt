-- How a book keeps its texts: each with its version, at the place of its name.
use Rattle.std.specs.Prelude.{◌≡◌, ℕ, List, [], ◌∷◌, length}
use Rattle.std.specs.Arc.{arc_value}
use Rattle.sno_book.specs.States.{State}
use Rattle.sno_book.specs.Openings.{names_in}
use Rattle.sno_book.specs.Views.{View, IsValid, state_of}
use Rattle.sno_book.specs.declared.versioned_texts.VersionedText.{VersionedText as StoredText}

-- these texts, each with the name at its place
abbrev pub with_names : List (List ℕ) → List StoredText → State
with_names [] stored = []
with_names (name ∷ names) [] = []
with_names (name ∷ names) (s ∷ stored) = record { name = name; text = arc_value s.text; version = s.version } ∷ with_names names stored

-- the view is valid, and the stored texts are what its entries leave
pub record Keeps (v : View) (stored : List StoredText) : Type 0 where
  pub valid : IsValid v
  pub texts : with_names (names_in v.opening.texts) stored ≡ state_of v
  pub as_many : length stored ≡ length v.opening.texts
