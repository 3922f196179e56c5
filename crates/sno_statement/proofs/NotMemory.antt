-- By its definition no statement runs out of memory.
use Rattle.std.proofs.Common.{◌+◌, ◌-◌, ℕ, zero, suc, Bool, true, false, cond, List, [], ◌∷◌, length, nat_lt, Option, Some, None, Result, Ok, Err}
use Rattle.sno_pattern.specs.Outcome.{outcome, trials}
use Rattle.sno_pattern.specs.declared.found.Hit.{Hit}
use Rattle.sno_read.specs.declared.objects.Part.{Part}
use Rattle.sno_statement.specs.declared.outcomes.StatementFault.{StatementFault}
use Rattle.sno_statement.specs.declared.outcomes.StatementFault.TheVariants as fault
use Rattle.sno_statement.specs.Statement.{Statement}
use Rattle.sno_statement.specs.Bindings.{Bindings, bindings_of}
use Rattle.sno_statement.specs.Value.{value_of, new_text}
use Rattle.sno_statement.specs.Perform.{Outcome, Matched, Failed, Repeated, All, all_or_failed, finish, finish_all, follow, rounds, perform_all, perform_all_within, perform_once, perform_times, perform}
use Rattle.sno_statement.specs.Passes.{all_matches, all_trials, replaced}
use Rattle.sno_statement.specs.declared.match_lists.Match.{Match}

abbrev pub IsNotMemory : Result Outcome StatementFault → Type 0
IsNotMemory (Ok done) = Unit {0}
IsNotMemory (Err fault.TextTooLong) = Unit {0}
IsNotMemory (Err fault.Memory) = ⊥
IsNotMemory (Err fault.TooManyTrials) = Unit {0}

of_length : (b : Bool) (done : Outcome) → IsNotMemory (cond b (Err fault.TextTooLong) (Ok done))
of_length true outcome = tt
of_length false outcome = tt

of_finish : (object : Option (List Part)) (t : List ℕ) (bound : Bindings) (hit : Option Hit) → IsNotMemory (finish object t bound hit)
of_finish object t bound None = tt
of_finish None t bound (Some hit) = tt
of_finish (Some parts) t bound (Some hit) =
    let after = new_text t hit.start hit.end (value_of bound parts) in
    of_length (nat_lt 65536 (length after)) (Matched hit.start hit.end bound (Some after))

of_trials : (b : Bool) (rest : Result Outcome StatementFault) → IsNotMemory rest → IsNotMemory (cond b (Err fault.TooManyTrials) rest)
of_trials true rest h = tt
of_trials false rest h = h

of_once : (s : Statement) (t : List ℕ) → IsNotMemory (perform_once s t)
of_once s t =
    let found = outcome t s.rules.bodies s.pattern s.anchored in
    of_trials (nat_lt s.limit (trials t s.rules.bodies s.pattern s.anchored)) (finish s.object t (bindings_of t found) found.end)
    (of_finish s.object t (bindings_of t found) found.end)

of_follow : (round : Result Outcome StatementFault) (ended : Bindings → Outcome) (go_on : Bindings → List ℕ → Result Outcome StatementFault)
    → IsNotMemory round → ((bound : Bindings) (t : List ℕ) → IsNotMemory (go_on bound t)) → IsNotMemory (follow round ended go_on)
of_follow (Ok (Matched s e bound (Some after))) ended go_on h more = more bound after
of_follow (Ok (Matched s e bound None)) ended go_on h more = tt
of_follow (Ok (Failed bound)) ended go_on h more = tt
of_follow (Ok (Repeated n bound after)) ended go_on h more = tt
of_follow (Ok (All matches after)) ended go_on h more = tt
of_follow (Err fault.TextTooLong) ended go_on h more = tt
of_follow (Err fault.Memory) ended go_on h more = h
of_follow (Err fault.TooManyTrials) ended go_on h more = tt

of_rounds : (s : Statement) (left n : ℕ) (bound : Bindings) (t : List ℕ) → IsNotMemory (rounds s left n bound t)
of_rounds s zero n bound t = tt
of_rounds s (suc left) n bound t = of_follow (perform_once s t) (λ _. Repeated n bound t) (rounds s left (n + 1)) (of_once s t) (of_rounds s left (n + 1))

of_times : (s : Statement) (repeat : Option ℕ) (t : List ℕ) → IsNotMemory (perform_times s repeat t)
of_times s None t = of_once s t
of_times s (Some r) t = of_follow (perform_once s t) Failed (rounds s (r - 1) 1) (of_once s t) (of_rounds s (r - 1) 1)

of_finish_all : (object : Option (List Part)) (t : List ℕ) (matches : List Match) → IsNotMemory (finish_all object t matches)
of_finish_all None t matches = tt
of_finish_all (Some parts) t matches = of_length (nat_lt 65536 (length (replaced parts t 0 matches))) (All matches (Some (replaced parts t 0 matches)))

of_matches : (s : Statement) (t : List ℕ) (matches : List Match) → IsNotMemory (all_or_failed s t matches)
of_matches s t [] = tt
of_matches s t (m ∷ ms) = of_finish_all s.object t (m ∷ ms)

of_all : (s : Statement) (t : List ℕ) → IsNotMemory (perform_all s t)
unfolding perform_all_within
of_all s t = of_trials (nat_lt s.limit (all_trials s t)) (all_or_failed s t (all_matches s t)) (of_matches s t (all_matches s t))

of_either : (all : Bool) (pass rounds : Result Outcome StatementFault) → IsNotMemory pass → IsNotMemory rounds → IsNotMemory (cond all pass rounds)
of_either true pass rounds h g = h
of_either false pass rounds h g = g

pub of_perform : (s : Statement) (t : List ℕ) → IsNotMemory (perform s t)
of_perform s t = of_either s.all (perform_all s t) (perform_times s s.repeat t) (of_all s t) (of_times s s.repeat t)
