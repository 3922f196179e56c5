-- The files so far were replaced, and there is room for the other results.
use Rattle.std.proofs.Common.{◌≡◌, ◌≤◌, ◌+◌, Some, ℕ, List, length, take, vec_len, vec_capacity}
use Rattle.sno_edit.specs.Batches.{AreReplaced}
use Rattle.test_programs.specs.Memory.{held}
use Rattle.test_programs.specs.declared.memory.Memory.{Memory}
use Rattle.test_programs.proofs.memory.MemoryFolder.replace_all.Given as goal

abbrev pub holds : Memory → List ℕ → List ℕ → Type 0
holds memory path bytes = held path memory.writings.items ≡ Some bytes

abbrev pub invariant-loop-file : goal.invariant-loop-file
invariant-loop-file l =
    AreReplaced holds l.fn.self (take l.file-index l.files) l.results.items l.self
    × (vec_len l.results ≡ l.file-index) × (length l.files ≤ vec_capacity l.results)
