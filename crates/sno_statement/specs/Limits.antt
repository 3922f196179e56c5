-- The limits of statements, as numbers.
use Rattle.std.specs.Prelude.{◌≡◌, refl}
use Rattle.sno_statement.specs.declared.statements.TheConstants.{USUAL_TRIALS, MAX_TRIALS, MAX_ROUNDS}

-- trials of a statement that gives no limit
usual_trials : USUAL_TRIALS ≡ 1000000
usual_trials = refl

-- the highest limit of trials
most_trials : MAX_TRIALS ≡ 1000000000
most_trials = refl

most_rounds : MAX_ROUNDS ≡ 1000
most_rounds = refl
