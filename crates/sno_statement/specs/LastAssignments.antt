-- The last assignment of each variable, before any string is cut.
use Rattle.std.specs.Prelude.{ℕ, List, map}
use Rattle.sno_pattern.specs.Ends.{part}
use Rattle.sno_statement.specs.declared.binding.Datum.{Datum}
use Rattle.sno_statement.specs.declared.binding.Datum.TheVariants.{Str, Int}
use Rattle.sno_statement.specs.declared.last_assignments.Last.{Last}
use Rattle.sno_statement.specs.declared.last_assignments.Last.TheVariants as last
use Rattle.sno_statement.specs.Bindings.{Bindings}

-- a part of the text t gives a string, a cursor a number
abbrev pub value_of_last : List ℕ → Last → Datum
value_of_last t (last.Part from to) = Str (part t from to)
value_of_last t (last.Cursor c) = Int c

-- each variable with its value
abbrev pub values_of_last : List ℕ → List (List ℕ × Last) → Bindings
values_of_last t lasts = map (λ b. (b.0, value_of_last t b.1)) lasts
