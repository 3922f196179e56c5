-- What a front represents.
use Rattle.std.specs.Prelude.{◌<◌, ◌≤◌, List, length, refl}
use Rattle.std.specs.Coded.{Coded, code_by, coded×, coded_list}
use mathlib.Core.List.{IsPrefix}
use Rattle.logbook.specs.Pages.{Book as HistoryName, book_coded}
use Rattle.sno_book.specs.Entries.{Entry, entry_code}

-- a beginning of a history: which history it is, and the entries
pub record Beginning : Type 0 where
  pub history : HistoryName
  pub entries : List Entry

-- a beginning is stored as the pair of its fields
abbrev pub beginning_code : Coded Beginning
beginning_code = code_by (HistoryName × List Entry) (coded× book_coded (coded_list entry_code)) (λ b. (b.history, b.entries)) (λ p. record { history = p.0; entries = p.1 }) (λ _. refl)

-- the shorter of two lists begins the longer
pub record AreOfOneLine (xs ys : List Entry) : Type 0 where
  pub first : length xs ≤ length ys → IsPrefix xs ys
  pub second : length ys ≤ length xs → IsPrefix ys xs

-- ys begins with xs, and has more
pub record GoesOn (xs ys : List Entry) : Type 0 where
  pub begins : IsPrefix xs ys
  pub longer : length xs < length ys
