-- The literals so far are ASCII, and together with those of the rest they are the literals of the text.
use Rattle.std.proofs.Common.{◌≡◌, ℕ, suc, ◌<◌, ◌≤◌, length}
use Rattle.sno_read.specs.Reading.{literals_at}
use Rattle.sno_read.specs.Views.{env_of}
use Rattle.sno_read.proofs.Ascii.{AreAscii}
use Rattle.sno_read.proofs.SetsMade.{with_literals}
use Rattle.sno_read.proofs.reader.Reader.joined.Given as goal

abbrev pub decreases-loop-members : goal.decreases-loop-members
decreases-loop-members l = length l.rest.characters.now

abbrev pub invariant-loop-members : goal.invariant-loop-members
invariant-loop-members l =
    (m : ℕ) × (length l.rest.characters.now < m) × (length l.rest.characters.now ≤ length l.start.characters.now) × AreAscii l.members.items
    × (with_literals l.members.items (literals_at (env_of l.self) m l.rest.characters.now) ≡ literals_at (env_of l.self) (suc (length l.start.characters.now)) l.start.characters.now)
