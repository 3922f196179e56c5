-- The value of an object, which is evaluated after the assignments of the match.
use Rattle.std.specs.Prelude.{ℕ, List, [], ◌++◌, take, drop, Option, Some, None}
use Rattle.std.specs.List.{flat_map}
use Rattle.std.specs.Fmt.{decimal}
use Rattle.sno_statement.specs.declared.binding.Datum.{Datum}
use Rattle.sno_statement.specs.declared.binding.Datum.TheVariants.{Str, Int}
use Rattle.sno_read.specs.declared.objects.Part.{Part}
use Rattle.sno_read.specs.declared.objects.Part.TheVariants.{Quoted, Var}
use Rattle.sno_statement.specs.Bindings.{Bindings, lookup}

-- a variable that was never assigned is the null string, and a number is its decimal text
abbrev pub string_of : Option Datum → List ℕ
string_of None = []
string_of (Some (Str s)) = s
string_of (Some (Int n)) = decimal n

-- a literal is itself
abbrev pub part_value : Bindings → Part → List ℕ
part_value bound (Quoted s) = s
part_value bound (Var name) = string_of (lookup name bound)

-- the parts, joined in order
abbrev pub value_of : Bindings → List Part → List ℕ
value_of bound parts = flat_map (part_value bound) parts

-- the text in which the part from s to e is replaced
abbrev pub new_text : List ℕ → ℕ → ℕ → List ℕ → List ℕ
new_text t s e value = take s t ++ (value ++ drop e t)
