-- What becomes of files: each then holds the text that the rules make of what it held, or what it held.
use Rattle.std.specs.Prelude.{◌≡◌, ◌<◌, ℕ, false, List, [], ◌∷◌, ◌++◌, length, not, IsUtf8, Result, Ok, Err}
use Rattle.std.specs.Arc.{arc_value}
use Rattle.sno_pattern.specs.Identifiers.{same}
use Rattle.sno_pattern.specs.Texts.{byte_text_of}
use Rattle.sno_pattern.specs.declared.byte_texts.TheConstants.{MAX_BYTES}
use Rattle.sno_edit.specs.Edits.{Edited, IsCut, edited}
use Rattle.sno_edit.specs.Faults.{follows}
use Rattle.sno_edit.specs.Held.{Held, Kept, OthersKept}
use Rattle.sno_edit.specs.Rules.{FileRules}
use Rattle.sno_edit.specs.declared.files.Done.{Done}
use Rattle.sno_edit.specs.declared.files.Plan.{Plan}
use Rattle.sno_edit.specs.declared.faults.FileFault.{FileFault}
use Rattle.sno_edit.specs.declared.faults.FileFault.TheVariants as fault

-- the file held the text `old`, and the rules make this of it
abbrev pub IsEdit : FileRules → List ℕ → Held → List ℕ → Edited → Type 0
IsEdit rules path before old e = before path old × (byte_text_of old ≡ Ok old) × (edited rules path old ≡ Ok e)

-- what is planned for a file
abbrev pub IsPlan : FileRules → List ℕ → Held → Plan → Type 0
IsPlan rules path before plan =
    IsEdit rules path before (arc_value plan.before) (record { text = arc_value plan.after; matches = plan.matches })

-- The file was edited: it holds the text that the rules make of what it held. If that is the same text, nothing
-- was written. UTF-8 stays UTF-8.
pub record IsDone (rules : FileRules) (path : List ℕ) (before after : Held) (done : Done) : Type 0 where
  pub old : List ℕ
  pub new : List ℕ
  pub edit : IsEdit rules path before old (record { text = new; matches = done.matches })
  pub utf8 : IsUtf8 old → IsUtf8 new
  pub changed : done.changed ≡ not (same old new)
  pub holds : after path new
  pub others : OthersKept path before after

-- why bytes are not a text
abbrev pub HasTextCause : List ℕ → FileFault → Type 0
HasTextCause bytes fault.TooLong = MAX_BYTES < length bytes
HasTextCause bytes fault.Memory = Unit {0}
HasTextCause bytes (fault.Refused refused) = ⊥
HasTextCause bytes (fault.Cut cut) = ⊥
HasTextCause bytes (fault.Unread kind) = ⊥
HasTextCause bytes (fault.Unwritten kind) = ⊥

-- why a file stays as it was; nothing is said of a refusal for too long a history
abbrev pub HasCause : FileRules → List ℕ → Held → FileFault → Type 0
HasCause rules path before fault.TooLong = (bytes : List ℕ) × before path bytes × (MAX_BYTES < length bytes)
HasCause rules path before (fault.Refused refused) =
    follows (fault.Refused refused) → (text : List ℕ) × before path text × (byte_text_of text ≡ Ok text) × (edited rules path text ≡ Err (fault.Refused refused))
HasCause rules path before (fault.Cut cut) =
    (text : List ℕ) × before path text × (byte_text_of text ≡ Ok text) × (edited rules path text ≡ Err (fault.Cut cut)) × IsCut rules path text cut
HasCause rules path before (fault.Unwritten kind) =
    (old : List ℕ) × (e : Edited) × IsEdit rules path before old e × (same old e.text ≡ false)
HasCause rules path before (fault.Unread kind) = Unit {0}
HasCause rules path before fault.Memory = Unit {0}

-- what became of one file: it was edited, or each file holds what it held, for a cause
abbrev pub IsFileEnd : FileRules → List ℕ → Held → Held → Result Done FileFault → Type 0
IsFileEnd rules path before after (Ok done) = IsDone rules path before after done
IsFileEnd rules path before after (Err e) = HasCause rules path before e × Kept before after

-- What became of several files, from one state of the folder to another: of each in turn, with one report for each.
pub data AreFilesEnds {F : Type 0} (holds : F → Held) (rules : FileRules) (first : F) : List (List ℕ) → F → List (Result Done FileFault) → Type 0 where
  no_file : AreFilesEnds holds rules first [] first []
  one_more : (paths : List (List ℕ)) (f g : F) (ends : List (Result Done FileFault)) (path : List ℕ) (end : Result Done FileFault)
      → AreFilesEnds holds rules first paths f ends → IsFileEnd rules path (holds f) (holds g) end
      → AreFilesEnds holds rules first (paths ++ path ∷ []) g (ends ++ end ∷ [])
