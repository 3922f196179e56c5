-- What follows a round.
use Rattle.std.proofs.Common.{◌≡◌, ◌+◌, ◌-◌, ◌<◌, ℕ, zero, suc, List, Option, Some, None, Result, Ok, Err, refl, ap, ◌∙◌, arith}
use Rattle.sno_statement.specs.declared.outcomes.StatementFault.{StatementFault}
use Rattle.sno_statement.specs.declared.outcomes.StatementFault.TheVariants as fault
use Rattle.sno_statement.specs.Statement.{Statement}
use Rattle.sno_statement.specs.Bindings.{Bindings}
use Rattle.sno_statement.specs.Perform.{Outcome, Matched, Failed, Repeated, All, Gives, left_by, follow, rounds, perform_once}

-- a round that leaves something leads on from it
pub goes_on : (d : Outcome) (bound : Bindings) (t : List ℕ) (ended : Bindings → Outcome) (go_on : Bindings → List ℕ → Result Outcome StatementFault) → left_by d ≡ Some (bound, t) → follow (Ok d) ended go_on ≡ go_on bound t
goes_on (Matched s e b (Some after)) bound t ended go_on is = ap (λ (o : Option (Bindings × List ℕ)). elim o as (λ _. Result Outcome StatementFault) [ None ↦ go_on b after | Some p ↦ go_on p.0 p.1 ]) is
goes_on (Matched s e b None) bound t ended go_on is = cc
goes_on (Failed b) bound t ended go_on is = cc
goes_on (Repeated n b after) bound t ended go_on is = cc
goes_on (All matches after) bound t ended go_on is = cc

-- one round fewer
pub round_more : (s : Statement) (left n : ℕ) (bound : Bindings) (t : List ℕ) → 0 < left → rounds s left n bound t ≡ follow (perform_once s t) (λ _. Repeated n bound t) (rounds s (left - 1) (n + 1))
round_more s zero n bound t h = absurd (omega (arith, h))
round_more s (suc k) n bound t h = let e : suc k - 1 ≡ k = omega arith in rw e refl

-- a round that is refused refuses the statement
pub refused_after : (s : Statement) (left n : ℕ) (bound : Bindings) (t : List ℕ) (e : StatementFault) → 0 < left → Gives (Err e) (perform_once s t) → Gives (Err e) (rounds s left n bound t)
refused_after s left n bound t fault.TextTooLong h is = round_more s left n bound t h ∙ ap (λ z. follow z (λ _. Repeated n bound t) (rounds s (left - 1) (n + 1))) is
refused_after s left n bound t fault.Memory h is = tt
refused_after s left n bound t fault.TooManyTrials h is = round_more s left n bound t h ∙ ap (λ z. follow z (λ _. Repeated n bound t) (rounds s (left - 1) (n + 1))) is

-- a round that matched leads on
pub left_after : (s : Statement) (left n : ℕ) (bound : Bindings) (t : List ℕ) (d : Outcome) (b : Bindings) (after : List ℕ) → 0 < left → perform_once s t ≡ Ok d → left_by d ≡ Some (b, after) → rounds s left n bound t ≡ rounds s (left - 1) (n + 1) b after
left_after s left n bound t d b after h is some =
    round_more s left n bound t h ∙ ap (λ z. follow z (λ _. Repeated n bound t) (rounds s (left - 1) (n + 1))) is ∙ goes_on d b after (λ _. Repeated n bound t) (rounds s (left - 1) (n + 1)) some

-- a round that doesn't lead on ends the rounds with this result
pub ended_after : (s : Statement) (left n : ℕ) (bound : Bindings) (t : List ℕ) (d answer : Outcome) → 0 < left → perform_once s t ≡ Ok d → ((go_on : Bindings → List ℕ → Result Outcome StatementFault) → follow (Ok d) (λ _. Repeated n bound t) go_on ≡ Ok answer) → rounds s left n bound t ≡ Ok answer
ended_after s left n bound t d answer h is ended = round_more s left n bound t h ∙ ap (λ z. follow z (λ _. Repeated n bound t) (rounds s (left - 1) (n + 1))) is ∙ ended (rounds s (left - 1) (n + 1))
