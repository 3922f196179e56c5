-- What a caller's options say: how to perform statements that don't say it themselves, and with how many workers.
use Rattle.std.specs.Prelude.{ℕ, Option, Some, None}
use Rattle.sno_document.specs.declared.modes.Mode.{Mode}
use Rattle.sno_rewrite.specs.declared.options.Options.{Options}

-- whether they are anchored, and how many trials each may take
abbrev pub mode_of : Options → Mode
mode_of options = record { anchor = options.anchor; trials = options.trials }

-- one worker if the options name no number
abbrev pub workers_in : Option ℕ → ℕ
workers_in None = 1
workers_in (Some n) = n
