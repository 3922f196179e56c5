-- Names of texts.
use Rattle.std.specs.Prelude.{◌≡◌, ℕ, Bool, true, false, not, ◌&&◌, List, length, nat_eq, nat_le, Result, Ok, Err}
use Rattle.std.specs.List.{list_all}
use Rattle.std.specs.Char.{is_ascii_graphic}
use Rattle.sno_pattern.specs.declared.text_names.TheConstants.{MAX_TEXT_NAME}
use Rattle.sno_pattern.specs.declared.text_names.NameFault.{NameFault}
use Rattle.sno_pattern.specs.declared.text_names.NameFault.TheVariants as fault

-- a name of a text: 1 to 255 characters, each from 33 to 126
abbrev pub is_text_name : List ℕ → Bool
is_text_name bytes = not (nat_eq (length bytes) 0) && (nat_le (length bytes) MAX_TEXT_NAME && list_all is_ascii_graphic bytes)

-- what `TextName::new` returns for bytes: the name, if they are one; `Bad` if they aren't; or `Memory`
abbrev pub IsTextName : Result (List ℕ) NameFault → List ℕ → Type 0
IsTextName (Ok name) bytes = (is_text_name bytes ≡ true) × (name ≡ bytes)
IsTextName (Err fault.Bad) bytes = is_text_name bytes ≡ false
IsTextName (Err fault.Memory) bytes = is_text_name bytes ≡ true
