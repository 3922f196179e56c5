-- Reports: what a run returns for a document.
use Rattle.std.specs.Prelude.{◌≡◌, ◌⊎◌, ℕ, Bool, List, length, nat_eq, Some, Ok, if◌then◌else◌}
use Rattle.sno_rewrite.specs.declared.faults.RunFault.{RunFault}
use Rattle.sno_rewrite.specs.declared.faults.RunFault.TheVariants.{Read, Write}
use Rattle.sno_document.specs.Document.{Document, IsDocument}
use Rattle.sno_document.specs.declared.modes.Mode.{Mode}
use Rattle.sno_rewrite.specs.Serial.{serial}
use Rattle.sno_listing.specs.Forms.{listing_by}
use Rattle.sno_listing.specs.History.{History}

-- the bytes are a document, the lines are the listing of its serial run, and `refused` of its statements are refused
pub record IsReport (mode : Mode) (json : Bool) (bytes lines : List ℕ) (refused : ℕ) : Type 0 where
  pub document : Document
  pub is_document : IsDocument mode bytes (Ok document)
  pub history : History
  pub performed : serial document ≡ Some history
  pub listed : lines ≡ listing_by json history
  pub counted : refused ≡ length history.refused

-- a fault of the world outside: a read or a write that failed
abbrev pub IsOutside : RunFault → Type 0
IsOutside e = (e ≡ Read) ⊎ (e ≡ Write)

-- the status of a run: whether a statement was refused
abbrev pub status_of_run : ℕ → ℕ
status_of_run refused = if nat_eq refused 0 then 0 else 1
