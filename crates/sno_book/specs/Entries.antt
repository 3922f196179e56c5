-- Entries of the journal by value.
use Rattle.std.specs.Prelude.{◌≡◌, ◌⊎◌, ℕ, List, Option, refl}
use Rattle.std.specs.Coded.{Coded, code_by, coded×, coded⊎, coded_list, coded_ℕ, coded_option}
use mathlib.Core.Logic.{inl, inr}
use Rattle.sno_statement.specs.Statement.{Statement, statement_code}
use Rattle.sno_statement.specs.Bindings.{Bindings}
use Rattle.sno_statement.specs.Perform.{Outcome, Matched, Failed, Repeated, All}
use Rattle.sno_statement.specs.declared.match_lists.Match.{Match}
pub use Rattle.sno_statement.specs.Perform.{after_of}
use Rattle.sno_statement.specs.contracts.binding.Datum as stored

-- an accepted statement: the statement, the version that its text had when it was performed, and the outcome
pub record Entry : Type 0 where
  pub statement : Statement
  pub version : ℕ
  pub outcome : Outcome

-- an outcome is stored as the tuple of its fields
abbrev Stored : Type 0
Stored = (ℕ × (ℕ × (Bindings × Option (List ℕ)))) ⊎ (Bindings ⊎ ((ℕ × (Bindings × List ℕ)) ⊎ (List Match × Option (List ℕ))))

abbrev split : Outcome → Stored
split (Matched s e bound after) = inl (s, (e, (bound, after)))
split (Failed bound) = inr (inl bound)
split (Repeated n bound after) = inr (inr (inl (n, (bound, after))))
split (All matches after) = inr (inr (inr (matches, after)))

abbrev join : Stored → Outcome
join (inl p) = Matched p.0 p.1.0 p.1.1.0 p.1.1.1
join (inr (inl bound)) = Failed bound
join (inr (inr (inl p))) = Repeated p.0 p.1.0 p.1.1
join (inr (inr (inr p))) = All p.0 p.1

pub join-split : (d : Outcome) → join (split d) ≡ d
join-split (Matched s e bound after) = refl
join-split (Failed bound) = refl
join-split (Repeated n bound after) = refl
join-split (All matches after) = refl

abbrev pub bound_code : Coded Bindings
bound_code = coded_list (coded× (coded_list coded_ℕ) stored.the_row.coded)

-- a match is stored as the tuple of its fields
abbrev pub match_code : Coded Match
match_code = code_by (ℕ × (ℕ × Bindings)) (coded× coded_ℕ (coded× coded_ℕ bound_code)) (λ m. (m.start, (m.end, m.bindings))) (λ p. record { start = p.0; end = p.1.0; bindings = p.1.1 }) (λ _. refl)

abbrev pub outcome_code : Coded Outcome
outcome_code =
    code_by Stored
    (coded⊎ (coded× coded_ℕ (coded× coded_ℕ (coded× bound_code (coded_option (coded_list coded_ℕ)))))
    (coded⊎ bound_code (coded⊎ (coded× coded_ℕ (coded× bound_code (coded_list coded_ℕ))) (coded× (coded_list match_code) (coded_option (coded_list coded_ℕ)))))) split join join-split

-- an entry is stored as the tuple of its fields
abbrev pub entry_code : Coded Entry
entry_code =
    code_by (Statement × (ℕ × Outcome)) (coded× statement_code (coded× coded_ℕ outcome_code)) (λ e. (e.statement, (e.version, e.outcome)))
    (λ p. record { statement = p.0; version = p.1.0; outcome = p.1.1 }) (λ _. refl)
