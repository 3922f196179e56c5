-- The low four bits name the row.
use Rattle.sno_primitives.proofs.Lanes.{low_ok, low_looked_up}
use Rattle.sno_primitives.proofs.rows.Rows.row_of.Goals as goal

pub swizzle : goal.swizzle
swizzle c = low_ok c.args.characters c.fits-characters

pub returns : goal.returns
returns c = low_looked_up c.args.self.now.rows c.args.characters c.fits-characters
