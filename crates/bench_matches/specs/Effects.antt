-- What a statement does on a text, as the line of the statement says it.
use Rattle.std.specs.Prelude.{ℕ, List, length, Bool, Option, Some, None, Result, Ok, Err, nat_lt, if◌then◌else◌}
use Rattle.sno_pattern.specs.Outcome.{outcome, trials}
use Rattle.sno_pattern.specs.declared.found.Hit.{Hit}
use Rattle.sno_machine.specs.Sources.{Source}
use Rattle.sno_statement.specs.Perform.{Outcome, Matched, Failed, Repeated, All}
use Rattle.sno_statement.specs.declared.outcomes.StatementFault.{StatementFault}
use Rattle.sno_statement.specs.declared.outcomes.StatementFault.TheVariants as fault
use Rattle.bench_matches.specs.declared.effects.Effect.{Effect}
use Rattle.bench_matches.specs.declared.effects.Effect.TheVariants as effects

-- the result of performing, without variables and new text
abbrev pub effect_of_performing : Result Outcome StatementFault → Effect
effect_of_performing (Ok (Matched s e bound after)) = effects.Matched s e
effect_of_performing (Ok (Failed bound)) = effects.Failed
effect_of_performing (Ok (Repeated n bound after)) = effects.Repeated n
effect_of_performing (Ok (All matches after)) = effects.All (length matches)
effect_of_performing (Err why) = effects.Refused why

-- the cursors of a success, or a failure
abbrev pub effect_of_hit : Option Hit → Effect
effect_of_hit None = effects.Failed
effect_of_hit (Some hit) = effects.Matched hit.start hit.end

-- the result of a match by this code, which may take at most this many trials
abbrev pub effect_of_matching : Source → Bool → ℕ → List ℕ → Effect
effect_of_matching code anchored limit t =
    if nat_lt limit (trials t code.bodies code.pattern anchored) then effects.Refused fault.TooManyTrials
    else effect_of_hit (outcome t code.bodies code.pattern anchored).end
