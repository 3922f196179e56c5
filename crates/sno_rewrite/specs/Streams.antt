-- Bytes that readers have left and writers hold, if they are known.
use Rattle.std.specs.Prelude.{◌≡◌, ◌⊎◌, ◌<◌, ◌≤◌, ℕ, ◌+◌, List, ◌++◌, length, Option, Result, IfSome, IsErrAnd}
use Rattle.std.specs.Io.KnownBytes.{Appends, Consumes, IsAtEnd}
use Rattle.sno_rewrite.specs.declared.faults.RunFault.{RunFault}
use Rattle.sno_rewrite.specs.declared.faults.RunFault.TheVariants.{Document, Memory, Read}
use Rattle.sno_document.specs.declared.documents.TheConstants.{MAX_DOCUMENT}
use Rattle.sno_document.specs.declared.faults.DocumentFault.TheVariants.{DocumentTooLong}

-- what was read comes after what was there
abbrev pub ConsumesAfter : Option (List ℕ) → Option (List ℕ) → List ℕ → List ℕ → Type 0
ConsumesAfter old new before after = (read : List ℕ) × Consumes old new read × (after ≡ before ++ read)

-- at most this many bytes were taken from the reader
abbrev pub TakesAtMost : ℕ → Option (List ℕ) → Option (List ℕ) → Type 0
TakesAtMost most old new = (read : List ℕ) × Consumes old new read × (length read ≤ most)

-- exactly this many bytes were taken from the reader
abbrev pub Takes : ℕ → Option (List ℕ) → Option (List ℕ) → Type 0
Takes count old new = (read : List ℕ) × Consumes old new read × (length read ≡ count)

-- the writer holds what it held and then a beginning of these bytes
abbrev pub AppendsFront : Option (List ℕ) → Option (List ℕ) → List ℕ → Type 0
AppendsFront old new bytes = (front : List ℕ) × (back : List ℕ) × Appends old new front × (front ++ back ≡ bytes)

-- the bytes are all that the reader had, no more than a document may have, and the reader is at its end
abbrev pub IsWholeInput : Option (List ℕ) → Option (List ℕ) → List ℕ → Type 0
IsWholeInput old new bytes = IfSome old (λ all. bytes ≡ all) × IsAtEnd new × (length bytes ≤ MAX_DOCUMENT)

-- memory ran out, or a read failed
abbrev pub IsMemoryOrRead : RunFault → Type 0
IsMemoryOrRead e = (e ≡ Memory) ⊎ (e ≡ Read)

-- or there are more bytes than a document may have, and one more than that was taken
abbrev pub IsReadFault : Option (List ℕ) → Option (List ℕ) → RunFault → Type 0
IsReadFault old new e = IsMemoryOrRead e ⊎ ((e ≡ Document DocumentTooLong) × Takes (MAX_DOCUMENT + 1) old new)

-- an input longer than a document may be is refused for its length, with one byte more taken than a document may have,
-- unless memory runs out or a read fails first
abbrev pub RefusesLonger : {X : Type 0} → Option (List ℕ) → Option (List ℕ) → Result X RunFault → Type 0
RefusesLonger old new result = IfSome old (λ bytes. MAX_DOCUMENT < length bytes → IsErrAnd result (IsReadFault old new))
