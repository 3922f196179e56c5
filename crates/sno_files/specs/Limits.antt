-- The limits of this crate, as numbers.
use Rattle.std.specs.Prelude.{◌≡◌, refl}
use Rattle.sno_files.specs.declared.editing.TheConstants.{HELD, TRIES}
use Rattle.sno_files.specs.declared.new_files.TheConstants.{NAMES}
use Rattle.sno_files.specs.declared.texts.TheConstants.{LOOKED_AT}

-- how many names are tried for a new file
most_names : NAMES ≡ 1000
most_names = refl

-- how many files are held together
most_held : HELD ≡ 64
most_held = refl

-- how many times a file is edited anew
most_tries : TRIES ≡ 10
most_tries = refl

-- how many bytes are looked at to know whether a file is text
most_looked_at : LOOKED_AT ≡ 8192
most_looked_at = refl
