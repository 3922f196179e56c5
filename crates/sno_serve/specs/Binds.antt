-- The texts that names represent in one statement: the member `bind` of its line.
use Rattle.std.specs.Prelude.{ℕ, List, [], ◌∷◌, ◌++◌, Option, Some, None, Result, Ok, Err}
use Rattle.serde_json.specs.Data.{Data, string, object, Members, no_members, member}
use Rattle.sno_pattern.specs.Identifiers.{name_of}
use Rattle.sno_pattern.specs.NameList.{names_of}
use Rattle.sno_pattern.specs.Texts.{text_of}
use Rattle.sno_pattern.specs.declared.name_list.NamesFault.{NamesFault}
use Rattle.sno_pattern.specs.declared.name_list.NamesFault.TheVariants as names
use Rattle.sno_pattern.specs.declared.texts.TextFault.{TextFault}
use Rattle.sno_pattern.specs.declared.texts.TextFault.TheVariants as texts
use Rattle.sno_serve.specs.declared.binds.Bound.{Bound as Stored}
use Rattle.sno_serve.specs.declared.binds.Pairs.{Pairs}
use Rattle.sno_serve.specs.declared.faults.BindFault.{BindFault}
use Rattle.sno_serve.specs.declared.faults.BindFault.TheVariants as fault

-- names, and the text of each
pub record Bound : Type 0 where
  pub names : List (List ℕ)
  pub texts : List (List ℕ)

-- the characters that a member has
abbrev pub bound_text : Result (List ℕ) TextFault → Result (List ℕ) BindFault
bound_text (Ok t) = Ok t
bound_text (Err texts.TooLong) = Err fault.TooLong
bound_text (Err (texts.NonAscii place)) = Err fault.NonAscii

-- one name with its text
abbrev pub with_text : List ℕ → Result (List ℕ) BindFault → Result (List ℕ × List ℕ) BindFault
with_text name (Ok t) = Ok (name, t)
with_text name (Err e) = Err e

-- a name, if the key is one
abbrev pub named : Option (List ℕ) → Result (List ℕ) BindFault → Result (List ℕ × List ℕ) BindFault
named None text = Err fault.Name
named (Some name) text = with_text name text

-- a member: its key is a name, and its value a string
abbrev pub bound_member : List ℕ → Data → Result (List ℕ × List ℕ) BindFault
bound_member key (string t) = named (name_of key) (bound_text (text_of t))
bound_member key d = Err fault.Shape

-- the names and texts so far, with a further one
abbrev pub with_member : Bound → Result (List ℕ × List ℕ) BindFault → Result Bound BindFault
with_member bound (Err e) = Err e
with_member bound (Ok one) = Ok (record { names = bound.names ++ one.0 ∷ []; texts = bound.texts ++ one.1 ∷ [] })

abbrev pub and_then : Result Bound BindFault → (Bound → Result Bound BindFault) → Result Bound BindFault
and_then (Ok b) f = f b
and_then (Err e) f = Err e

-- the names and texts so far, with those of the members
abbrev pub bound_from : Bound → Members → Result Bound BindFault
bound_from bound no_members = Ok bound
bound_from bound (member k d ms) = and_then (with_member bound (bound_member k d)) (λ b. bound_from b ms)

-- the names of the definitions, and after them those that represent texts: at most 64, no reserved word among them, and no repeated name
abbrev pub with_names : List (List ℕ) → Result (List (List ℕ)) NamesFault → Result (Option Bound) BindFault
with_names texts (Ok names) = Ok (Some (record { names = names; texts = texts }))
with_names texts (Err names.TooMany) = Err fault.TooMany
with_names texts (Err (names.Reserved place)) = Err fault.Reserved
with_names texts (Err (names.Duplicate place)) = Err fault.Duplicate
with_names texts (Err names.Memory) = Err fault.TooMany

abbrev pub after_names : List (List ℕ) → Result Bound BindFault → Result (Option Bound) BindFault
after_names defined (Err e) = Err e
after_names defined (Ok b) = with_names b.texts (names_of (defined ++ b.names))

-- what the member `bind` says, if it is there: all names, and the texts of those that are not of definitions
abbrev pub bound_in : List (List ℕ) → Option Data → Result (Option Bound) BindFault
bound_in defined None = Ok None
bound_in defined (Some (object ms)) = after_names defined (bound_from (record { names = []; texts = [] }) ms)
bound_in defined (Some d) = Err fault.Shape

-- names and texts of the program, by value
abbrev pub pairs_seen : Result Pairs BindFault → Result Bound BindFault
pairs_seen (Ok b) = Ok (record { names = b.names.items; texts = b.texts.items })
pairs_seen (Err e) = Err e

abbrev pub optional_seen : Option Stored → Option Bound
optional_seen None = None
optional_seen (Some b) = Some (record { names = b.names; texts = b.texts.items })

abbrev pub bound_seen : Result (Option Stored) BindFault → Result (Option Bound) BindFault
bound_seen (Ok b) = Ok (optional_seen b)
bound_seen (Err e) = Err e
