-- What contracts see of a seat.
use Rattle.std.specs.Prelude.{ℕ, List, Option, Result, refl}
use Rattle.std.specs.Coded.{Coded, code_by, coded×, coded_list, coded_option, coded_result, coded_ℕ}
use Rattle.sno_book.specs.Entries.{Entry, entry_code}
use Rattle.sno_book.specs.Proposals.{Receipt, receipt_code}
use Rattle.sno_desk.specs.declared.faults.SubmitFault.{SubmitFault}
use Rattle.sno_desk.specs.contracts.faults.SubmitFault as fault

-- how many proposals were accepted through the seat; the entries that were shown when it looked last; those that it has
-- seen or learned of; and the replies to its jobs, if it keeps some for `run_workers`
pub record Seating : Type 0 where
  pub accepted : ℕ
  pub shown : List Entry
  pub seen : List Entry
  pub replies : Option (List (Result Receipt SubmitFault))

-- a seating is stored as the tuple of its fields
abbrev pub seating_code : Coded Seating
seating_code =
    code_by (ℕ × (List Entry × (List Entry × Option (List (Result Receipt SubmitFault)))))
    (coded× coded_ℕ (coded× (coded_list entry_code) (coded× (coded_list entry_code) (coded_option (coded_list (coded_result receipt_code fault.the_row.coded))))))
    (λ s. (s.accepted, (s.shown, (s.seen, s.replies)))) (λ p. record { accepted = p.0; shown = p.1.0; seen = p.1.1.0; replies = p.1.1.1 }) (λ _. refl)
