-- The one handle to the C library's heap, as an allocator.
use Rattle.std.proofs.alloc.Calls.{Al}
use Rattle.std.specs.contracts.alloc.Global as heap
use Rattle.std.proofs.alloc.Global.TheLaws as heap_laws
use Rattle.std.specs.contracts.impls.GlobalAllocator.TheImpl.{ghosts, dict}

abbrev pub global : Al
global = record { row = heap.the_row; laws = heap_laws.the_row_laws; g = ghosts; d = dict; drops = dict }
