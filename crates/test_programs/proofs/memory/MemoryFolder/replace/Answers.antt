-- The file holds the new bytes, and each other one what it held.
use Rattle.std.proofs.Common.{subst, ◌∙◌}
use Rattle.test_programs.specs.Memory.{IsWritten}
use Rattle.test_programs.proofs.MemoryLaws.{held_others, held_written}
use Rattle.test_programs.proofs.memory.MemoryFolder.replace.Goals as goal

pub returns-clause-written : goal.returns-clause-written
returns-clause-written c =
    let written = subst (λ path. IsWritten path c.args.bytes.now c.args.self.now.writings.items c.write.new.self.writings.items) c.as_bytes.ensures.value c.in_ok-write.ensures.written in
    held_written c.args.path.now c.args.bytes.now _ _ written

pub returns-clause-others : goal.returns-clause-others
returns-clause-others c other bytes unlike is =
    let written = subst (λ path. IsWritten path c.args.bytes.now c.args.self.now.writings.items c.write.new.self.writings.items) c.as_bytes.ensures.value c.in_ok-write.ensures.written in
    held_others c.args.path.now c.args.bytes.now _ _ written other unlike ∙ is
