-- Line feeds between two places of a text.
use Rattle.std.specs.Prelude.{◌≡◌, ◌<◌, ◌+◌, ℕ, true, false, List, slice_index}
use Rattle.sno_edit.specs.Scripts.{is_line_feed}

-- From place `from` on, n bytes come before the first line feed, which lies before `place`.
pub record IsNextFeed (text : List ℕ) (from place n : ℕ) : Type 0 where
  pub before : from + n < place
  pub none : (j : ℕ) → j < n → is_line_feed (slice_index text (from + j)) ≡ false
  pub feed : is_line_feed (slice_index text (from + n)) ≡ true
