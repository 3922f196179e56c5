-- A number of entries that is within the room fits.
use Rattle.std.proofs.Common.{arith}
use Rattle.sno_machine.proofs.run.entries.History.push.Goals as goal

pub overflow_cast-result : goal.overflow_cast-result
overflow_cast-result c = omega (arith, c.len.ensures, c.push_reserved.ensures.len, c.in_ok-make_room.ensures.longer, c.make_room.new.self.fits)
