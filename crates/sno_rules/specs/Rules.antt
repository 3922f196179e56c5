-- What a line is as a rule, and as a definition.
use Rattle.std.specs.Prelude.{◌≡◌, ℕ, ◌-◌, Bool, List, [], ◌∷◌, length, Option, Some, Result, Ok, Err}
use Rattle.std.specs.Option.{option_map}
use Rattle.sno_rules.specs.declared.faults.LineFault.{LineFault}
use Rattle.sno_rules.specs.declared.faults.LineFault.TheVariants as fault
use Rattle.sno_rules.specs.declared.fields.Fields.{Fields as StoredFields}
use Rattle.sno_rules.specs.declared.rules.LineRule.{LineRule}
use Rattle.sno_rules.specs.declared.rules.LineDefinition.{LineDefinition}
use Rattle.sno_rules.specs.Lines.{Fields, fields_seen, no_fields, with_field, front_of, rest_of, object_in, trimmed}

-- The fields of a text, which is empty or begins with a colon, after those before; or the first that is unknown. `total` is how
-- many characters the line has.
pub data AreFields (total : ℕ) : Fields → List ℕ → Result Fields LineFault → Type 0 where
  no_more : (f : Fields) → AreFields total f [] (Ok f)
  unknown : (f : Fields) (colon : ℕ) (after : List ℕ) (e : LineFault) → with_field f (total - length after) (front_of 58 after) ≡ Err e → AreFields total f (colon ∷ after) (Err e)
  more : (f g : Fields) (colon : ℕ) (after : List ℕ) (r : Result Fields LineFault) → with_field f (total - length after) (front_of 58 after) ≡ Ok g
      → AreFields total g (rest_of 58 after) r → AreFields total f (colon ∷ after) r

abbrev pub FieldsGive : ℕ → Fields → List ℕ → Result StoredFields LineFault → Type 0
FieldsGive total f text (Ok g) = AreFields total f text (Ok (fields_seen g))
FieldsGive total f text (Err e) = AreFields total f text (Err e)

-- the fields that a rule has
abbrev pub fields_of : LineRule → Fields
fields_of rule = record { first = rule.first; anchored = rule.anchored; repeat = option_map (λ s. s.now) rule.repeat; text = option_map (λ s. s.now) rule.text }

-- A line has its fields from the first colon on, and before them the pattern, up to the first `=`, and the object after that.
pub record HasParts (line : List ℕ) (rule : LineRule) : Type 0 where
  pub pattern : rule.pattern.now ≡ front_of 61 (front_of 58 line)
  pub object : option_map (λ s. s.now) rule.object ≡ object_in (rest_of 61 (front_of 58 line))
  pub fields : AreFields (length line) no_fields (rest_of 58 line) (Ok (fields_of rule))

-- the line is this rule, or it has this fault
abbrev pub IsRule : List ℕ → Result LineRule LineFault → Type 0
IsRule line (Ok rule) = HasParts line rule
IsRule line (Err e) = AreFields (length line) no_fields (rest_of 58 line) (Err e)

-- a definition has a name, the first `=` and a pattern
abbrev pub definition_by : List ℕ → List ℕ → Result (List ℕ × List ℕ) LineFault
definition_by name [] = Err fault.NoEqualsSign
definition_by name (sign ∷ pattern) = Ok (trimmed name, pattern)

abbrev pub GivesDefinition : Result LineDefinition LineFault → List ℕ → Type 0
GivesDefinition (Ok d) line = definition_by (front_of 61 line) (rest_of 61 line) ≡ Ok (d.name.now, d.pattern.now)
GivesDefinition (Err e) line = definition_by (front_of 61 line) (rest_of 61 line) ≡ Err e
