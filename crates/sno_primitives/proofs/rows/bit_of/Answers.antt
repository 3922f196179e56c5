-- The high four bits name the bit.
use Rattle.sno_primitives.proofs.Lanes.{high_ok, high_looked_up}
use Rattle.sno_primitives.specs.declared.rows.TheConstants.{BITS}
use Rattle.sno_primitives.proofs.rows.bit_of.Goals as goal

pub swizzle : goal.swizzle
swizzle c = high_ok c.args.characters c.fits-characters

pub returns : goal.returns
returns c = high_looked_up BITS c.args.characters c.fits-characters
