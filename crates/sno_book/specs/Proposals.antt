-- Proposals and receipts by value.
use Rattle.std.specs.Prelude.{◌≡◌, ℕ, List, Option, Result, Ok, Err, refl}
use Rattle.std.specs.Coded.{Coded, code_by, coded×, coded_list, coded_ℕ}
use Rattle.sno_statement.specs.Statement.{Statement, statement_code}
use Rattle.sno_statement.specs.Perform.{Outcome, perform}
use Rattle.sno_statement.specs.declared.outcomes.StatementFault.{StatementFault}
use Rattle.sno_statement.specs.declared.outcomes.StatementFault.TheVariants as fault
use Rattle.sno_book.specs.Entries.{Entry, after_of, outcome_code, entry_code}
use Rattle.sno_book.specs.Views.{View, view_code}
use Rattle.sno_book.specs.Origins.{HoldsText}
use Rattle.sno_book.specs.Snapshots.{Snapshot}

-- a statement, the place and version of the text that it was performed on, the view after which that text is there, and
-- the outcome
pub record Proposal : Type 0 where
  pub statement : Statement
  pub place : ℕ
  pub version : ℕ
  pub origin : View
  pub outcome : Outcome

-- a proposal is stored as the tuple of its fields
abbrev pub proposal_code : Coded Proposal
proposal_code =
    code_by (Statement × (ℕ × (ℕ × (View × Outcome)))) (coded× statement_code (coded× coded_ℕ (coded× coded_ℕ (coded× view_code outcome_code))))
    (λ p. (p.statement, (p.place, (p.version, (p.origin, p.outcome)))))
    (λ p. record { statement = p.0; place = p.1.0; version = p.1.1.0; origin = p.1.1.1.0; outcome = p.1.1.1.1 }) (λ _. refl)

-- the entry that the proposal makes
abbrev pub entry_of : Proposal → Entry
entry_of p = record { statement = p.statement; version = p.version; outcome = p.outcome }

-- a proposal's entry, its new text, and the text that it was performed on
pub record IsPrepared (p : Proposal) (entry : Entry) (after : Option (List ℕ)) (text : List ℕ) : Type 0 where
  pub entry_is : entry ≡ entry_of p
  pub after_is : after ≡ after_of p.outcome
  pub held : HoldsText p.origin p.place p.version text
  pub performed : perform p.statement text ≡ Ok p.outcome

-- the entry's index in the journal, the entry, and the text that it was performed on
pub record Receipt : Type 0 where
  pub index : ℕ
  pub entry : Entry
  pub text : List ℕ

-- a receipt is stored as the tuple of its fields
abbrev pub receipt_code : Coded Receipt
receipt_code =
    code_by (ℕ × (Entry × List ℕ)) (coded× coded_ℕ (coded× entry_code (coded_list coded_ℕ))) (λ r. (r.index, (r.entry, r.text)))
    (λ p. record { index = p.0; entry = p.1.0; text = p.1.1 }) (λ _. refl)

-- a proposal of the statement on the snapshot, with its view and with what the statement does to its text
pub record Proposes (p : Proposal) (s : Statement) (snapshot : Snapshot) : Type 0 where
  pub statement : p.statement ≡ s
  pub place : p.place ≡ snapshot.place
  pub version : p.version ≡ snapshot.version
  pub origin : p.origin ≡ snapshot.origin
  pub outcome : perform s (snapshot.text) ≡ Ok p.outcome

-- the proposal, or the refusal of the statement on that text
abbrev pub GivesProposal : Result Proposal StatementFault → Statement → Snapshot → Type 0
GivesProposal (Ok p) s snapshot = Proposes p s snapshot
GivesProposal (Err fault.TextTooLong) s snapshot = perform s (snapshot.text) ≡ Err fault.TextTooLong
GivesProposal (Err fault.Memory) s snapshot = Unit {0}
GivesProposal (Err fault.TooManyTrials) s snapshot = perform s (snapshot.text) ≡ Err fault.TooManyTrials
