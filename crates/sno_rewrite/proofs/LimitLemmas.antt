-- Options within their limits.
use Rattle.std.proofs.Common.{◌≡◌, ℕ, ◌≤◌, true, Option, Some, None, IfSome}
use Rattle.std.specs.Prelude.{nat_le, ◌&&◌}
use Rattle.std.specs.Option.{option_map_or}
use Rattle.std.proofs.lemmas.Bool.{and_parts, leb-true}
use Rattle.sno_rewrite.specs.CommandLine.{are_valid, is_up_to}
use Rattle.sno_rewrite.specs.Runs.{AreInLimits}
use Rattle.sno_rewrite.specs.declared.options.Options.{Options}
use Rattle.sno_statement.specs.declared.statements.TheConstants.{MAX_TRIALS}
use Rattle.sno_desk.specs.declared.desk.TheConstants.{MAX_TRIES}
use Rattle.sno_rewrite.specs.declared.options.TheConstants.{MAX_WORKERS}

up_to : (most n : ℕ) → is_up_to most n ≡ true → (1 ≤ n) × (n ≤ most)
up_to most n h = let p = and_parts (nat_le 1 n) (nat_le n most) h in (leb-true 1 n p.0, leb-true n most p.1)

workers_up_to : (workers : Option ℕ) → option_map_or (is_up_to MAX_WORKERS) workers true ≡ true → IfSome workers (λ n. (1 ≤ n) × (n ≤ MAX_WORKERS))
workers_up_to None h = tt
workers_up_to (Some n) h = up_to MAX_WORKERS n h

-- options that pass the test are within their limits
pub in_limits : (options : Options) → are_valid options ≡ true → AreInLimits options
in_limits options h =
    let p = and_parts (option_map_or (is_up_to MAX_WORKERS) options.workers true) (is_up_to MAX_TRIES options.tries && is_up_to MAX_TRIALS options.trials) h in
    let q = and_parts (is_up_to MAX_TRIES options.tries) (is_up_to MAX_TRIALS options.trials) p.1 in
    record { workers = workers_up_to options.workers p.0; tries = up_to MAX_TRIES options.tries q.0; trials = up_to MAX_TRIALS options.trials q.1 }
