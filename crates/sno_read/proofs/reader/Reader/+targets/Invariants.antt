-- Each target is read from the text.
use Rattle.std.proofs.Common.{length}
use Rattle.sno_read.proofs.reader.Reader.+targets.Given as goal

abbrev pub decreases-targets : goal.decreases-targets
decreases-targets l = length l.rest.characters.now
