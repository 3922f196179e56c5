-- Each bit of each row is turned.
use Rattle.sno_primitives.proofs.Lanes.{others_are, lane_small}
use Rattle.sno_primitives.proofs.rows.turned.Goals as goal

pub returns : goal.returns
returns c = others_are (record { rows = c.args.rows }) c.fits-rows.0 (lane_small c.args.rows c.fits-rows.1)
