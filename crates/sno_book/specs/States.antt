-- The texts of the collection at one moment.
use Rattle.std.specs.Prelude.{ℕ, ◌+◌, List, [], ◌∷◌, Option, Some, None, if◌then◌else◌}
use Rattle.sno_pattern.specs.Identifiers.{same}

-- a text with its name and its version
pub record VersionedText : Type 0 where
  pub name : List ℕ
  pub text : List ℕ
  pub version : ℕ

-- the texts, in the order in which they were given
abbrev pub State : Type 0
State = List VersionedText

-- the text of this name, if there is one
abbrev pub find : List ℕ → State → Option VersionedText
find name [] = None
find name (versioned ∷ state) = if same name versioned.name then Some versioned else find name state

-- a new text raises the version by one, even if its characters are those of the old one
abbrev pub raise : VersionedText → List ℕ → VersionedText
raise versioned text = record { name = versioned.name; text = text; version = versioned.version + 1 }

-- the new text in place of the text of this name; all else is unchanged
abbrev pub renew : List ℕ → List ℕ → State → State
renew name text [] = []
renew name text (versioned ∷ state) = if same name versioned.name then raise versioned text ∷ state else versioned ∷ renew name text state

-- the same if there is a new text; otherwise all is unchanged
abbrev pub renew_by : List ℕ → Option (List ℕ) → State → State
renew_by name None state = state
renew_by name (Some text) state = renew name text state
