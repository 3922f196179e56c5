-- The program: from its arguments and its streams to its status.
use Rattle.std.specs.Prelude.{◌≡◌, ◌≢◌, ◌⊎◌, ℕ, List, string_bytes, Option, Result, Ok, Err, IfSome}
use Rattle.std.specs.Io.KnownBytes.{Appends}
use Rattle.std.specs.declared.io.ErrorKind.{ErrorKind}
use Rattle.std.specs.declared.io.ErrorKind.TheVariants.{OutOfMemory}
use Rattle.sno_rewrite.specs.Faults.{status}
use Rattle.sno_rewrite.specs.declared.faults.RunFault.{RunFault}
use Rattle.sno_rewrite.specs.declared.faults.RunFault.TheVariants.{Write}
use Rattle.sno_rewrite.specs.Reports.{IsOutside}
use Rattle.sno_rewrite.specs.Runs.{FailsBy, IsBegun, IsRun}
use Rattle.sno_rewrite.specs.Streams.{AppendsFront}
use Rattle.sno_rewrite.specs.declared.command_line.OptionsFault.{OptionsFault}
use Rattle.sno_rewrite.specs.declared.command_line.OptionsFault.TheVariants.{Help, Usage, Memory}
use Rattle.sno_rewrite.specs.declared.options.Options.{Options}
use Rattle.sno_rewrite.specs.Modes.{mode_of}

-- why the system gives no arguments: one of them is not a text, or memory ran out
abbrev pub IsWordsFault : ErrorKind → OptionsFault → Type 0
IsWordsFault kind (Help text) = ⊥
IsWordsFault kind (Usage text) = kind ≢ OutOfMemory
IsWordsFault kind Memory = Unit {0}

-- the status of a run, or that of its fault
abbrev pub status_by : Result ℕ RunFault → ℕ
status_by (Ok status) = status
status_by (Err e) = status e

-- The result of a run: the listing was written, and the status says whether a statement was refused. Or there is a
-- fault, and nothing was written, or a beginning of the listing was.
abbrev pub RunsTo : {W : Type 0} → Options → Option (List ℕ) → W → W → Option (List ℕ) → Option (List ℕ) → Result ℕ RunFault → Type 0
RunsTo options input writer_old writer_new written_old written_new (Ok status) = IfSome input (λ bytes. IsRun options bytes written_old written_new status)
RunsTo options input writer_old writer_new written_old written_new (Err e) =
    (IsOutside e ⊎ IfSome input (λ bytes. FailsBy options.workers (mode_of options) bytes e))
    × ((writer_new ≡ writer_old) ⊎ ((e ≡ Write) × IfSome input (λ bytes. IsBegun options bytes written_old written_new)))

-- How the program ends on arguments that give no options. Help goes to the output with status 0, or with 4 if it can't
-- be printed. How the program is used goes to the errors with 3. If memory ran out, the status is 4.
abbrev pub EndsBy : {W E : Type 0} → W → W → Option (List ℕ) → Option (List ℕ) → E → E → Option (List ℕ) → Option (List ℕ) → OptionsFault → ℕ → Type 0
EndsBy writer_old writer_new written_old written_new errors_old errors_new said_old said_new (Help text) status =
    ((status ≡ 0) × Appends written_old written_new (string_bytes text) × (errors_new ≡ errors_old)) ⊎ ((status ≡ 4) × AppendsFront written_old written_new (string_bytes text))
EndsBy writer_old writer_new written_old written_new errors_old errors_new said_old said_new (Usage text) status =
    (status ≡ 3) × (writer_new ≡ writer_old) × AppendsFront said_old said_new (string_bytes text)
EndsBy writer_old writer_new written_old written_new errors_old errors_new said_old said_new Memory status = (status ≡ 4) × (writer_new ≡ writer_old)
