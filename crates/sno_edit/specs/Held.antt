-- What files hold.
use Rattle.std.specs.Prelude.{◌≢◌, ℕ, List}

-- what files hold: the file with this path has these bytes
abbrev pub Held : Type 1
Held = List ℕ → List ℕ → Type 0

-- each file holds what it held
abbrev pub Kept : Held → Held → Type 0
Kept before after = (path bytes : List ℕ) → before path bytes → after path bytes

-- each other file holds what it held
abbrev pub OthersKept : List ℕ → Held → Held → Type 0
OthersKept path before after = (other bytes : List ℕ) → other ≢ path → before other bytes → after other bytes
