-- Which faults blame the document.
use Rattle.std.proofs.Common.{◌≡◌, ◌≢◌, ℕ, List}
use Rattle.sno_document.specs.declared.faults.DocumentFault.TheVariants as document
use Rattle.sno_document.specs.declared.modes.Mode.{Mode}
use Rattle.sno_rewrite.specs.Faults.{IsFirstFault, status}
use Rattle.sno_rewrite.specs.declared.faults.RunFault.{RunFault}
use Rattle.sno_rewrite.specs.declared.faults.RunFault.TheVariants as run
use Rattle.sno_c.specs.Listed.{IsFaulty}

-- a fault with status 2 is the first of the bytes
pub faulty : (mode : Mode) (bytes : List ℕ) (e : RunFault) → (e ≢ run.Memory → IsFirstFault mode bytes e) → status e ≡ 2 → IsFaulty mode bytes
faulty mode bytes (run.Document document.Memory) h two = absurd cc
faulty mode bytes (run.Document e) h two = record { fault = e; first = h (λ is. cc) }
faulty mode bytes e h two = absurd cc
