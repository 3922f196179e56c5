-- Lines that are sealed together.
use Rattle.sno_store.specs.declared.faults.StoreFault.{StoreFault}
use Rattle.sno_store.specs.declared.faults.StoreFault.TheVariants.{Closed, Unsupported, TooLong, Memory, NoRoom, Read, Write, Sync}
use Rattle.std.specs.Prelude.{◌≡◌, ℕ, suc, ◌+◌, ◌≤◌, ◌^◌, ⊤, List, [], ◌∷◌, length, decimal}
use Rattle.sno_sealed.specs.Seals.{sum_of, sealed_line}

-- these payloads sealed one after the other, after this many lines and this sum; the texts are those of the first and the last number
abbrev pub sealed_lines : ℕ → ℕ → List ℕ → List ℕ → List (List ℕ) → List (List ℕ)
sealed_lines before count first last [] = []
sealed_lines before count first last (payload ∷ payloads) =
    sealed_line before (count + 1) first last payload ∷ sealed_lines (sum_of before (count + 1) first last payload) (count + 1) first last payloads

-- the sum of the last of them
abbrev pub sealed_sum : ℕ → ℕ → List ℕ → List ℕ → List (List ℕ) → ℕ
sealed_sum before count first last [] = before
sealed_sum before count first last (payload ∷ payloads) =
    sealed_sum (sum_of before (count + 1) first last payload) (count + 1) first last payloads

-- payloads sealed as one batch: each line says from which number to which it goes
abbrev pub sealed_batch : ℕ → ℕ → List (List ℕ) → List (List ℕ)
sealed_batch before count payloads = sealed_lines before count (decimal (count + 1)) (decimal (count + length payloads)) payloads

abbrev pub batch_sum : ℕ → ℕ → List (List ℕ) → ℕ
batch_sum before count payloads = sealed_sum before count (decimal (count + 1)) (decimal (count + length payloads)) payloads

-- why lines up to the one with this number aren't sealed
abbrev pub IsBatchFault : ℕ → StoreFault → Type 0
IsBatchFault last TooLong = 2 ^ 64 ≤ last + 1
IsBatchFault last Memory = ⊤
IsBatchFault last Closed = ⊥
IsBatchFault last Unsupported = ⊥
IsBatchFault last NoRoom = ⊥
IsBatchFault last (Read e) = ⊥
IsBatchFault last (Write e) = ⊥
IsBatchFault last (Sync e) = ⊥
