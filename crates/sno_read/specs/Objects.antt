-- Reading an object from left to right, with the first fault that is met.
use Rattle.std.specs.Prelude.{ℕ, zero, suc, true, false, List, [], ◌∷◌, ◌++◌, length, nat_eq, Result, Ok, Err, if◌then◌else◌}
use Rattle.sno_read.specs.declared.faults.ReadFault.{ReadFault}
use Rattle.sno_read.specs.declared.faults.ReadFault.TheVariants as fault
use Rattle.sno_read.specs.declared.characters.Start.{Start}
use Rattle.sno_read.specs.declared.characters.Start.TheVariants as start
use Rattle.sno_read.specs.declared.objects.Part.{Part}
use Rattle.sno_read.specs.declared.objects.Part.TheVariants.{Quoted, Var}
use Rattle.sno_read.specs.Gives.{◌>>=◌}
use Rattle.sno_read.specs.Characters.{skip, start_of}
use Rattle.sno_read.specs.Reading.{Env, Read, place, literal_at, variable_at, blanks_at, short_text, short_ascii}

-- a part, by how it begins
abbrev pub part_by : Env → List ℕ → Start → Read Part
part_by env text start.Quote = literal_at env text >>= λ s. Ok (Quoted s.0, s.1)
part_by env text start.Letter = variable_at env text >>= λ v. Ok (Var v.0, v.1)
part_by env text _ = Err (fault.Unexpected (place env text))

unfoldable pub part_at : Env → List ℕ → Read Part
part_at env text = part_by env text (start_of text)

-- the rest after a part: nothing, or blanks and more
unfoldable pub gap_at : Env → List ℕ → Result (List ℕ) ReadFault
gap_at env text = if nat_eq (length text) 0 then Ok text else blanks_at env text

-- the parts of a text that doesn't begin with a blank; the number bounds how many there are
unfoldable pub parts_of : Env → ℕ → List ℕ → Result (List Part) ReadFault
parts_of env zero text = Err (fault.Unexpected (place env text))
parts_of env (suc n) text =
    if nat_eq (length text) 0 then Ok []
    else (do
      x ← part_at env text
      rest ← gap_at env x.1
      others ← parts_of env n rest
      Ok (x.0 ∷ others))

-- parts that were read, and the rest of them
abbrev pub with_front : List Part → Result (List Part) ReadFault → Result (List Part) ReadFault
with_front front others = others >>= λ ps. Ok (front ++ ps)

-- The parts of the object that a text spells, or the first fault of the text; `names` are the names of the definitions.
unfoldable pub object_of : (names : List (List ℕ)) → List ℕ → Result (List Part) ReadFault
object_of names text = do
  t ← short_ascii text
  parts_of (record { names = names; earlier = 0; total = length text; in_rule = false }) (suc (length (skip t))) (skip t)

-- The parts of the object that the text of a rule spells, or the first fault of the text. It may have any bytes.
unfoldable pub rule_object_of : (names : List (List ℕ)) → List ℕ → Result (List Part) ReadFault
rule_object_of names text = do
  t ← short_text text
  parts_of (record { names = names; earlier = 0; total = length text; in_rule = true }) (suc (length (skip t))) (skip t)
