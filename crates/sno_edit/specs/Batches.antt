-- A batch: files that are planned one after the other and then written together.
use Rattle.std.specs.Prelude.{◌≡◌, ◌≢◌, ℕ, Bool, true, false, List, [], ◌∷◌, not, Result, Ok, Err, OnOk, OnErr}
use Rattle.std.specs.Arc.{arc_value}
use Rattle.sno_pattern.specs.Identifiers.{same}
use Rattle.sno_edit.specs.Held.{Held, Kept, OthersKept}
use Rattle.sno_edit.specs.Faults.{of_write}
use Rattle.sno_edit.specs.Files.{HasCause, IsEdit}
use Rattle.sno_edit.specs.Rules.{FileRules}
use Rattle.sno_edit.specs.declared.files.Done.{Done}
use Rattle.sno_edit.specs.declared.folders.NewText.{NewText}
use Rattle.sno_edit.specs.declared.folders.WriteFault.{WriteFault}
use Rattle.sno_edit.specs.declared.faults.FileFault.{FileFault}
use Rattle.sno_edit.specs.declared.faults.FileFault.TheVariants.{Memory}

-- what came of a write
abbrev pub Written : Type 0
Written = Result (Unit {0}) WriteFault

-- what became of a file, or becomes of it if it is written
abbrev pub End : Type 0
End = Result Done FileFault

-- One file was replaced: it holds the new text, or each file holds what it held. No other file changed.
abbrev pub IsReplaced : NewText → Held → Held → Written → Type 0
IsReplaced file before after (Ok done) = after file.path.now (arc_value file.text) × OthersKept file.path.now before after
IsReplaced file before after (Err fault) = Kept before after

-- Several files were replaced one after the other, each with its own result, from one state of the folder to another.
abbrev pub AreReplaced : {F : Type 0} → (F → Held) → F → List NewText → List Written → F → Type 0
AreReplaced holds f [] [] g = g ≡ f
AreReplaced holds f [] (result ∷ results) g = ⊥
AreReplaced holds f (file ∷ files) [] g = ⊥
AreReplaced {F} holds f (file ∷ files) (result ∷ results) g =
    (h : F) × IsReplaced file (holds f) (holds h) result × AreReplaced holds h files results g

-- the path is none of these
abbrev pub IsAbsent : List ℕ → List (List ℕ) → Type 0
IsAbsent path [] = Unit {0}
IsAbsent path (other ∷ others) = (other ≢ path) × IsAbsent path others

-- no two of these paths are the same
abbrev pub Differ : List (List ℕ) → Type 0
Differ [] = Unit {0}
Differ (path ∷ paths) = IsAbsent path paths × Differ paths

-- the first of the writes is this one, if there is to be one, and the rest is as it should be
abbrev pub TakesWrite : Bool → List ℕ → List ℕ → List NewText → (List NewText → Type 0) → Type 0
TakesWrite false path text writes Rest = Rest writes
TakesWrite true path text [] Rest = ⊥
TakesWrite true path text (file ∷ writes) Rest = (file.path.now ≡ path) × (arc_value file.text ≡ text) × Rest writes

-- Files were planned: what becomes of each if its new text is written, and the new texts, of those that change alone.
abbrev pub ArePlanned : FileRules → Held → List (List ℕ) → List End → List NewText → Type 0
ArePlanned rules before [] [] writes = writes ≡ []
ArePlanned rules before [] (end ∷ ends) writes = ⊥
ArePlanned rules before (path ∷ paths) [] writes = ⊥
ArePlanned rules before (path ∷ paths) (Err fault ∷ ends) writes =
    HasCause rules path before fault × ArePlanned rules before paths ends writes
ArePlanned rules before (path ∷ paths) (Ok done ∷ ends) writes =
    (old : List ℕ) × (new : List ℕ) × IsEdit rules path before old (record { text = new; matches = done.matches })
    × (done.changed ≡ not (same old new)) × TakesWrite done.changed path new writes (ArePlanned rules before paths ends)

-- what becomes of a file that changes, by the first of the results; without a result there was no memory
abbrev pub settle_write : Done → List Written → End × List Written
settle_write done [] = (Err Memory, [])
settle_write done (Ok written ∷ results) = (Ok done, results)
settle_write done (Err fault ∷ results) = (Err (of_write fault), results)

-- a result is taken only for a file that changes
abbrev pub settle_done : Bool → Done → List Written → End × List Written
settle_done true done results = settle_write done results
settle_done false done results = (Ok done, results)

-- what becomes of a file that was planned, and the results that are left for the others
abbrev pub settle : End → List Written → End × List Written
settle (Err fault) results = (Err fault, results)
settle (Ok done) results = settle_done done.changed done results

-- what becomes of each of the files
abbrev pub settled : List End → List Written → List End
settled [] results = []
settled (end ∷ ends) results = (settle end results).0 ∷ settled ends (settle end results).1
