-- Worked examples: each is proved by computing from the definitions alone.
use Rattle.std.specs.Prelude.{◌≡◌, refl}
use Rattle.sno_book.specs.declared.openings.TheConstants.{MAX_TEXTS, MAX_ENTRIES}

-- ---- Limits
most_texts : MAX_TEXTS ≡ 1024
most_texts = refl

-- entries of a journal
most_entries : MAX_ENTRIES ≡ 1000000
most_entries = refl
