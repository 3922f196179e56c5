-- How many trials a statement may take on a text.
use Rattle.std.specs.Prelude.{ℕ, ◌+◌, ◌-◌, ◌*◌, ◌^◌, max, min}
use Rattle.sno_edit.specs.declared.trials.TheConstants.{LEAST_USUAL_TRIALS, TRIALS_PER_BYTE}
use Rattle.sno_edit.specs.declared.trials.Trials.{Trials}
use Rattle.sno_edit.specs.declared.trials.Trials.TheVariants.{Usual, AtMost}

-- 256 for each byte and for the end, but at least 1,000,000 and at most 2^32 - 1
abbrev pub usual_trials : ℕ → ℕ
usual_trials bytes = min (max (TRIALS_PER_BYTE * (bytes + 1)) LEAST_USUAL_TRIALS) (2 ^ 32 - 1)

-- how many trials a statement may take on a text of this many bytes
abbrev pub trials_for : Trials → ℕ → ℕ
trials_for Usual bytes = usual_trials bytes
trials_for (AtMost trials) bytes = trials
