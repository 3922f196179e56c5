-- What a screen shows.
use Rattle.std.specs.Prelude.{List, Bool, true, false, refl}
use Rattle.std.specs.Coded.{Coded, code_by, coded×, coded_list, coded_bool}
use Rattle.sno_book.specs.Entries.{Entry, entry_code}
use Rattle.sno_published.specs.declared.faults.PublishFault.{PublishFault}
use Rattle.sno_published.specs.declared.faults.PublishFault.TheVariants.{Memory, Stopped}

-- the entries that are shown, and whether more can be published
pub record Screen : Type 0 where
  pub shown : List Entry
  pub is_open : Bool

-- a screen is stored as the pair of its fields
abbrev pub screen_code : Coded Screen
screen_code = code_by (List Entry × Bool) (coded× (coded_list entry_code) coded_bool) (λ s. (s.shown, s.is_open)) (λ p. record { shown = p.0; is_open = p.1 }) (λ _. refl)

-- whether more can be published after this refusal
abbrev pub leaves_open : PublishFault → Bool
leaves_open Memory = true
leaves_open Stopped = false
