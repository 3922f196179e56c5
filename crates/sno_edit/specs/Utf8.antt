-- Texts that are UTF-8.
use Rattle.std.specs.Prelude.{ℕ, List, Option, Some, None, if◌then◌else◌}
use Rattle.std.specs.Str.{is_utf8}
use Rattle.std.specs.Str.Lossy.{utf8_valid_len}

-- the first place at which a text is not UTF-8, if there is one
abbrev pub first_non_utf8 : List ℕ → Option ℕ
first_non_utf8 text = if is_utf8 text then None else Some (utf8_valid_len text)

-- where a statement cuts a character that makes this text of that one: the first place at which the new text is not
-- UTF-8, if the old one is
abbrev pub cut_at : List ℕ → List ℕ → Option ℕ
cut_at old new = if is_utf8 old then first_non_utf8 new else None
