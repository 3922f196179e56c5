-- Runs with workers and without.
use Rattle.std.specs.Prelude.{◌≡◌, ◌≢◌, ◌⊎◌, ◌≤◌, ℕ, List, Option, Some, None, Ok, IfSome}
use Rattle.std.specs.Io.KnownBytes.{Appends}
use Rattle.sno_rewrite.specs.Streams.{AppendsFront}
use Rattle.sno_statement.specs.Statement.{IsLimit}
use Rattle.sno_document.specs.Document.{Document, IsDocument}
use Rattle.sno_document.specs.declared.modes.Mode.{Mode}
use Rattle.sno_rewrite.specs.Faults.{IsFirstFault}
use Rattle.sno_rewrite.specs.Modes.{mode_of}
use Rattle.sno_rewrite.specs.Reports.{IsReport, status_of_run}
use Rattle.sno_rewrite.specs.Shared.{IsSharedReport}
use Rattle.sno_rewrite.specs.declared.options.Options.{Options}
use Rattle.sno_desk.specs.declared.desk.TheConstants.{MAX_TRIES}
use Rattle.sno_rewrite.specs.declared.options.TheConstants.{MAX_WORKERS}
use Rattle.sno_rewrite.specs.declared.faults.RunFault.{RunFault}
use Rattle.sno_rewrite.specs.declared.faults.RunFault.TheVariants.{Memory, Stopped, NoReader, Audit, Closing}

-- workers are 1 to 16, if there are any; tries are 1 to 1,000, and trials 1 to 1,000,000,000
pub record AreInLimits (options : Options) : Type 0 where
  pub workers : IfSome options.workers (λ n. (1 ≤ n) × (n ≤ MAX_WORKERS))
  pub tries : (1 ≤ options.tries) × (options.tries ≤ MAX_TRIES)
  pub trials : IsLimit options.trials

-- without workers the report is that of the serial run, and with workers that of a shared one
abbrev pub Reports : Option ℕ → Options → List ℕ → List ℕ → ℕ → Type 0
Reports None options bytes lines refused = IsReport (mode_of options) options.json bytes lines refused
Reports (Some n) options bytes lines refused = IsSharedReport (mode_of options) options.json n options.tries bytes lines refused

-- a fault of the run's own, not of a document: memory ran out, nothing more was shown to a seat, or there was no place
-- for a reader; receipts and journal don't agree; or the desk did not close
abbrev pub IsOwn : RunFault → Type 0
IsOwn e = (e ≡ Memory) ⊎ ((e ≡ Stopped) ⊎ ((e ≡ NoReader) ⊎ ((e ≡ Audit) ⊎ (e ≡ Closing))))

-- with workers a fault is the first of the bytes, unless memory ran out; or it is one of the run's own, and the bytes
-- are a document
abbrev pub FailsShared : Mode → List ℕ → RunFault → Type 0
FailsShared mode bytes e = e ≢ Memory → IsFirstFault mode bytes e ⊎ (IsOwn e × ((d : Document) × IsDocument mode bytes (Ok d)))

-- without workers a fault is the first of the bytes, unless memory ran out
abbrev pub FailsBy : Option ℕ → Mode → List ℕ → RunFault → Type 0
FailsBy None mode bytes e = e ≢ Memory → IsFirstFault mode bytes e
FailsBy (Some n) mode bytes e = FailsShared mode bytes e

-- the listing was written after what the writer held, and the status says whether a statement was refused
pub record IsRun (options : Options) (bytes : List ℕ) (before after : Option (List ℕ)) (status : ℕ) : Type 0 where
  pub lines : List ℕ
  pub refused : ℕ
  pub reported : Reports options.workers options bytes lines refused
  pub written : Appends before after lines
  pub said : status ≡ status_of_run refused

-- a beginning of the listing was written after what the writer held
pub record IsBegun (options : Options) (bytes : List ℕ) (before after : Option (List ℕ)) : Type 0 where
  pub lines : List ℕ
  pub refused : ℕ
  pub reported : Reports options.workers options bytes lines refused
  pub written : AppendsFront before after lines
