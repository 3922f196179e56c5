-- The right to free a block of the C library's heap.
use mir.Syntax.{Ty}
use base.Fml.{Fml}
use denote.RawPtr.{Ptr}
use Rattle.std.specs.Global.{Global}
use Rattle.std_heap.specs.contracts.GlobalAllocator.TheImpl.{ghosts}

-- a handle to that heap: there is only one
abbrev pub heap : Global
heap = record { memory = record { seal = tt } }

-- whoever has it may free the block at p
abbrev pub chunk : Ty → Ptr → Fml
chunk τ p = ghosts.dealloc_token heap τ p
