-- Which files are text.
use Rattle.std.specs.Prelude.{◌==◌, ℕ, Bool, List, not, take}
use Rattle.std.specs.List.{list_any}
use Rattle.sno_files.specs.declared.texts.TheConstants.{LOOKED_AT}

abbrev pub is_nul : ℕ → Bool
is_nul byte = byte == 0

-- there is no NUL in the first bytes
abbrev pub is_text : List ℕ → Bool
is_text bytes = not (list_any is_nul (take LOOKED_AT bytes))
