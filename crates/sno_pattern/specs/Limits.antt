-- The limits of names, texts and definitions, as numbers.
use Rattle.std.specs.Prelude.{◌≡◌, refl}
use Rattle.sno_pattern.specs.declared.identifiers.TheConstants.{MAX_NAME}
use Rattle.sno_pattern.specs.declared.text_names.TheConstants.{MAX_TEXT_NAME}
use Rattle.sno_pattern.specs.declared.texts.TheConstants.{MAX_TEXT}
use Rattle.sno_pattern.specs.declared.byte_texts.TheConstants.{MAX_BYTES}
use Rattle.sno_pattern.specs.declared.name_list.TheConstants.{MAX_DEFINITIONS}

-- characters of a name
longest_name : MAX_NAME ≡ 64
longest_name = refl

-- characters of a text's name
longest_text_name : MAX_TEXT_NAME ≡ 255
longest_text_name = refl

-- characters of a text
longest_text : MAX_TEXT ≡ 65536
longest_text = refl

-- bytes of a text of bytes
longest_byte_text : MAX_BYTES ≡ 16777216
longest_byte_text = refl

most_definitions : MAX_DEFINITIONS ≡ 64
most_definitions = refl
