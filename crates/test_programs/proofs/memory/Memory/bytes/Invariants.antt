-- What the file holds after the writings that are left is what it holds after all.
use Rattle.std.proofs.Common.{◌≡◌, drop}
use Rattle.std.specs.Option.{option_map}
use Rattle.test_programs.specs.Memory.{held, held_after}
use Rattle.test_programs.proofs.memory.Memory.bytes.Given as goal

abbrev pub invariant-loop-writing : goal.invariant-loop-writing
invariant-loop-writing l = held_after l.path (option_map (λ b. b.now) l.bytes) (drop l.writing-index l.self.writings.items) ≡ held l.path l.self.writings.items
