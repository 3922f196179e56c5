-- The limits of runs, as numbers. The others are limits of the crates below.
use Rattle.std.specs.Prelude.{◌≡◌, refl}
use Rattle.sno_rewrite.specs.declared.options.TheConstants.{MAX_WORKERS}
use Rattle.sno_rewrite.specs.declared.command_line.TheConstants.{USUAL_TRIES}

most_workers : MAX_WORKERS ≡ 16
most_workers = refl

-- tries of a run that gives no number of them
usual_tries : USUAL_TRIES ≡ 100
usual_tries = refl
