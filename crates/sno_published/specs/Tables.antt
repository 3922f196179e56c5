-- What a table shows.
use Rattle.std.specs.Prelude.{ℕ, List, [], Option, slice_get, slice_index_or}
use Rattle.sno_book.specs.States.{VersionedText}
use Rattle.sno_book.specs.Entries.{Entry}
use Rattle.sno_book.specs.Journals.{replay}
use Rattle.sno_book.specs.Openings.{Opening, start, names_in}

-- the text at a place after these entries, with its name and its version
abbrev pub text_after : Opening → List Entry → ℕ → Option VersionedText
text_after opening entries place = slice_get (replay (start opening) entries) place

-- a text with the name of this place
abbrev pub text_at : Opening → ℕ → List ℕ → ℕ → VersionedText
text_at opening place text version = record { name = slice_index_or (names_in opening.texts) place []; text = text; version = version }
