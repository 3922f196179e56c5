-- What the variables are bound to.
use Rattle.std.specs.Prelude.{◌≡◌, ℕ, List, [], ◌∷◌, Option, Some, None, if◌then◌else◌}
use Rattle.sno_pattern.specs.Identifiers.{same}
use Rattle.sno_pattern.specs.Ends.{part}
use Rattle.sno_pattern.specs.Events.{CondList}
use Rattle.sno_pattern.specs.declared.events.What.{What}
use Rattle.sno_pattern.specs.declared.events.What.TheVariants as what
use Rattle.sno_pattern.specs.declared.events.Assign.{Assign}
use Rattle.sno_pattern.specs.declared.found.Found.{Found}
use Rattle.sno_pattern.specs.declared.found.Hit.{Hit}
use Rattle.sno_statement.specs.declared.binding.Datum.{Datum}
use Rattle.sno_statement.specs.declared.binding.Datum.TheVariants.{Str, Int}

-- variables with their values, in the order of their first assignment
abbrev pub Bindings : Type 0
Bindings = List (List ℕ × Datum)

-- one more assignment: an existing variable keeps its place and takes the new value, and a new one goes last
abbrev pub bind : {V : Type 0} → List (List ℕ × V) → List ℕ → V → List (List ℕ × V)
bind [] name value = (name, value) ∷ []
bind (b ∷ bound) name value = if same name b.0 then (b.0, value) ∷ bound else b ∷ bind bound name value

-- the value of a variable; `None` if it was never assigned
abbrev pub lookup : {V : Type 0} → List ℕ → List (List ℕ × V) → Option V
lookup name [] = None
lookup name (b ∷ bound) = if same name b.0 then Some b.1 else lookup name bound

-- no variable comes twice: none has a value among those after it
abbrev pub AreDistinct : Bindings → Type 0
AreDistinct [] = Unit {0}
AreDistinct (b ∷ bound) = (lookup b.0 bound ≡ None) × AreDistinct bound

-- a part of the text t gives a string, a cursor a number
abbrev pub datum_of : List ℕ → What → Datum
datum_of t (what.Part from to) = Str (part t from to)
datum_of t (what.Cursor c) = Int c

-- the assignments that were done at once, in order
abbrev pub bind_sets : List ℕ → Bindings → List Assign → Bindings
bind_sets t bound [] = bound
bind_sets t bound (a ∷ sets) = bind_sets t (bind bound a.name (datum_of t a.what)) sets

-- the conditional assignments, in order
abbrev pub bind_conds : List ℕ → Bindings → CondList → Bindings
bind_conds t bound [] = bound
bind_conds t bound (a ∷ conds) = bind_conds t (bind bound a.0 (Str (part t a.1 a.2))) conds

-- the conditional assignments of a success; a failure has none
abbrev pub conds_of : Option Hit → CondList
conds_of None = []
conds_of (Some hit) = hit.conds

-- what the variables are bound to after a match: first what was assigned at once, then, on success, the conditional assignments
abbrev pub bindings_of : List ℕ → Found → Bindings
bindings_of t found = bind_conds t (bind_sets t [] found.sets) (conds_of found.end)
