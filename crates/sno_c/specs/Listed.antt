-- What a call from C returns: a status, a number of bytes, and what the buffer has then.
use Rattle.std.specs.Prelude.{◌≡◌, ◌<◌, ◌++◌, ℕ, Bool, List, Err, drop, length}
use Rattle.sno_document.specs.Document.{IsDocument}
use Rattle.sno_document.specs.declared.faults.DocumentFault.{DocumentFault}
use Rattle.sno_document.specs.declared.modes.Mode.{Mode}
use Rattle.sno_rewrite.specs.Reports.{IsReport, status_of_run}

-- the buffer begins with the listing of the document's serial run, which has `reported` bytes, and the status says whether
-- a statement was refused
pub record IsListed (mode : Mode) (json : Bool) (document before after : List ℕ) (reported status : ℕ) : Type 0 where
  pub lines : List ℕ
  pub refused : ℕ
  pub report : IsReport mode json document lines refused
  pub counted : reported ≡ length lines
  pub written : after ≡ lines ++ drop reported before
  pub judged : status ≡ status_of_run refused

-- the listing of the document's serial run has `reported` bytes, which is more than the buffer has
pub record IsLonger (mode : Mode) (json : Bool) (document before : List ℕ) (reported : ℕ) : Type 0 where
  pub lines : List ℕ
  pub refused : ℕ
  pub report : IsReport mode json document lines refused
  pub counted : reported ≡ length lines
  pub longer : length before < reported

-- the bytes are not a document; they have one of the faults that a document may have
pub record IsFaulty (mode : Mode) (document : List ℕ) : Type 0 where
  pub fault : DocumentFault
  pub first : IsDocument mode document (Err fault)
