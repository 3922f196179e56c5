-- A file is too long only if it has so many bytes.
use Rattle.sno_files.proofs.reading.ReadOnlyFolder.read.Goals as goal

pub returns-in-Ok-clause-long : goal.returns-in-Ok-clause-long
returns-in-Ok-clause-long g c = λ is. (c.in-Ok.bytes.items, tt, c.not_too_long.ensures.long is)
