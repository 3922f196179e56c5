-- The parts so far and the parts of the rest are together the parts of the text.
use Rattle.std.proofs.Common.{◌≡◌, ℕ, suc, ◌<◌, length, map}
use Rattle.sno_read.specs.ByteParts.{part_of}
use Rattle.sno_read.specs.Objects.{parts_of, with_front}
use Rattle.sno_read.specs.Views.{env_of}
use Rattle.sno_read.proofs.reader.Reader.byte_parts.Given as goal

abbrev pub decreases-loop-rest : goal.decreases-loop-rest
decreases-loop-rest l = length l.rest.characters.now

abbrev pub invariant-loop-rest : goal.invariant-loop-rest
invariant-loop-rest l = (m : ℕ) × (length l.rest.characters.now < m) × (with_front (map part_of l.parts.items) (parts_of (env_of l.self) m l.rest.characters.now) ≡ parts_of (env_of l.self) (suc (length l.start.characters.now)) l.start.characters.now)
