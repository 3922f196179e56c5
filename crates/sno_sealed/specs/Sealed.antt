-- What a store of sealed lines shows.
use Rattle.std.specs.Prelude.{◌≡◌, ℕ, Bool, List, ◌++◌, take, IsTrue}
use Rattle.sqlite_disk.specs.declared.Disk.{Ghosts}
use Rattle.sno_store.specs.declared.store.Store.{Store}
use Rattle.sno_store.specs.Store as base
use Rattle.sno_store.specs.Lines.{recovered}
use Rattle.sno_sealed.specs.declared.chain.Chain.{Chain}
use Rattle.sno_sealed.specs.declared.sealed.Sealed.{Sealed}
use Rattle.sno_sealed.specs.Batches.{sealed_batch, batch_sum}
use Rattle.sno_sealed.specs.Chains.{IsChain}

-- a file whose lines have these payloads and the first of the new ones, each sealed
abbrev pub HoldsFirst : List (List ℕ) → List (List ℕ) → List ℕ → Type 0
HoldsFirst olds news file = (k : ℕ) × (chain : Chain) × IsChain (recovered file) (olds ++ take k news) chain

module _ {D : Type 0} {g : Ghosts D} where
  abbrev pub store_of : Sealed D g → Store D g
  store_of sealed = sealed.store

  -- how far its lines have come
  abbrev pub chain_of : Sealed D g → Chain
  chain_of sealed = sealed.chain

  -- it takes lines
  abbrev pub takes_lines : Sealed D g → Bool
  takes_lines sealed = base.takes_lines sealed.store

  -- no wrong result of its disk was taken as true
  abbrev pub is_clean : Sealed D g → Bool
  is_clean sealed = base.is_clean sealed.store

  -- the lines that a restart would read, as they are written
  abbrev pub lines_of : Sealed D g → List (List ℕ)
  lines_of sealed = base.lines_of sealed.store

  -- a crash at this moment leaves what a read returns, and nothing else
  abbrev pub IsOnDisk : Sealed D g → Type 0
  IsOnDisk sealed = base.IsOnDisk sealed.store

  -- a crash at this moment may leave this file
  abbrev pub Leaves : Sealed D g → List ℕ → Type 0
  Leaves sealed = base.Leaves sealed.store

  -- these lines, as it would write them now
  abbrev pub sealed_now : Sealed D g → List (List ℕ) → List (List ℕ)
  sealed_now sealed payloads = sealed_batch sealed.chain.sum sealed.chain.lines payloads

  -- its lines have these payloads, and each is sealed
  abbrev pub Holds : Sealed D g → List (List ℕ) → Type 0
  Holds sealed payloads = IsChain (base.lines_of sealed.store) payloads sealed.chain
