-- What is bound, and the map that holds it. Assigning, looking up and keeping variables distinct are done by the map.
use Rattle.std.proofs.Common.{◌≡◌, ℕ, false, List, [], ◌∷◌, Option, Some, None, map, if◌then◌else◌, refl, ap}
use Rattle.std.specs.List.{IsDistinct, AllByRecursion}
use Rattle.std.specs.Map.{lookup as find_value}
use Rattle.indexmap.specs.IndexMap.{insert_entry}
use Rattle.sno_pattern.specs.Identifiers.{same}
use Rattle.sno_statement.specs.declared.binding.Datum.{Datum}
use Rattle.sno_statement.specs.Bindings.{Bindings, AreDistinct, bind, lookup}

pub bind_inserts : {V : Type 0} → (bound : List (List ℕ × V)) (name : List ℕ) (value : V) → bind bound name value ≡ insert_entry same bound name value
bind_inserts [] name value = refl
bind_inserts {V} (b ∷ bound) name value =
    ap (λ (rest : List (List ℕ × V)). if same name b.0 then (b.0, value) ∷ bound else b ∷ rest) (bind_inserts bound name value)

pub lookup_finds : (name : List ℕ) (bound : Bindings) → lookup name bound ≡ find_value (same name) bound
lookup_finds name [] = refl
lookup_finds name (b ∷ bound) = ap (λ (rest : Option Datum). if same name b.0 then Some b.1 else rest) (lookup_finds name bound)

-- a variable that isn't among these has no value among them
no_value : (name : List ℕ) (bound : Bindings) → AllByRecursion (λ other. same name other ≡ false) (map (λ b. b.0) bound) → lookup name bound ≡ None
no_value name [] h = refl
no_value name (b ∷ bound) h = rw h.0 (no_value name bound h.1)

pub keys_are_distinct : (bound : Bindings) → IsDistinct same (map (λ b. b.0) bound) → AreDistinct bound
unfolding IsDistinct
keys_are_distinct [] h = tt
keys_are_distinct (b ∷ bound) h = (no_value b.0 bound h.0, keys_are_distinct bound h.1)
