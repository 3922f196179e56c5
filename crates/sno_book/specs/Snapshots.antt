-- Snapshots by value.
use Rattle.std.specs.Prelude.{ℕ, List, refl}
use Rattle.std.specs.Coded.{Coded, code_by, coded×, coded_list, coded_ℕ}
use Rattle.sno_book.specs.Views.{View, view_code}

-- the place, version and characters of a text, and the view from which the snapshot comes
pub record Snapshot : Type 0 where
  pub place : ℕ
  pub version : ℕ
  pub text : List ℕ
  pub origin : View

-- a snapshot is stored as the tuple of its fields
abbrev pub snapshot_code : Coded Snapshot
snapshot_code =
    code_by (ℕ × (ℕ × (List ℕ × View))) (coded× coded_ℕ (coded× coded_ℕ (coded× (coded_list coded_ℕ) view_code))) (λ s. (s.place, (s.version, (s.text, s.origin))))
    (λ p. record { place = p.0; version = p.1.0; text = p.1.1.0; origin = p.1.1.1 }) (λ _. refl)
