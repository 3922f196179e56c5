-- One bit of one row is set.
use Rattle.std.proofs.Common.{arith}
use Rattle.sno_primitives.proofs.Lanes.{one_more}
use Rattle.sno_primitives.proofs.rows.Rows.add.Goals as goal

pub returns : goal.returns
returns c = one_more c.args.self.now c.args.character (omega arith) c.requires
