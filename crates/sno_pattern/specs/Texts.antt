-- Texts: at most 65,536 ASCII characters, and at most 16,777,216 bytes.
use Rattle.std.specs.Prelude.{ℕ, not, List, length, nat_lt, Option, Some, None, Result, Ok, Err, if◌then◌else◌}
use Rattle.std.specs.List.{position_from}
use Rattle.std.specs.Char.{is_ascii}
use Rattle.sno_pattern.specs.declared.texts.TextFault.{TextFault}
use Rattle.sno_pattern.specs.declared.texts.TextFault.TheVariants.{TooLong, NonAscii}
use Rattle.sno_pattern.specs.declared.texts.TheConstants.{MAX_TEXT}
use Rattle.sno_pattern.specs.declared.byte_texts.TheConstants.{MAX_BYTES}
use Rattle.sno_pattern.specs.declared.byte_texts.ByteTextFault.{ByteTextFault}
use Rattle.sno_pattern.specs.declared.byte_texts.ByteTextFault.TheVariants as bytes

-- the place of the first byte above 127
abbrev pub first_non_ascii : List ℕ → Option ℕ
first_non_ascii bytes = position_from (λ b. not (is_ascii b)) 0 bytes

-- the bytes, or the place of the first that isn't ASCII
abbrev pub ascii_or : Option ℕ → List ℕ → Result (List ℕ) TextFault
ascii_or None bytes = Ok bytes
ascii_or (Some place) bytes = Err (NonAscii place)

-- what `Text::new` makes of bytes: the length is checked first, then the characters
abbrev pub text_of : List ℕ → Result (List ℕ) TextFault
text_of bytes = if nat_lt MAX_TEXT (length bytes) then Err TooLong else ascii_or (first_non_ascii bytes) bytes

-- what `ByteText::new` makes of bytes: any of them will do, if they are no more than the limit
abbrev pub byte_text_of : List ℕ → Result (List ℕ) ByteTextFault
byte_text_of text = if nat_lt MAX_BYTES (length text) then Err bytes.TooLong else Ok text
