-- A lane stops a run inside if the character has no bit in its row, and a run outside if it has.
use Rattle.std.proofs.Common.{◌∙◌, ap, sym, map, not}
use Rattle.std.specs.Simd.Lanes.{mask_l}
use Rattle.sno_primitives.specs.Rows.{goes_by_rows}
use Rattle.sno_primitives.proofs.Lanes.{stops_inside, stops_outside}
use Rattle.sno_primitives.proofs.rows.Rows.stops.Goals as goal

pub returns-then-inside : goal.returns-then-inside
returns-then-inside c =
    stops_inside c.args.self.now c.args.characters c.row_of.result c.bit_of.result c.fits-characters c.row_of.ensures c.bit_of.ensures
    ∙ ap (λ b. mask_l (map (λ x. not (goes_by_rows b c.args.self.now x)) c.args.characters)) (sym c.if-inside.true)

pub returns-else-inside : goal.returns-else-inside
returns-else-inside c =
    stops_outside c.args.self.now c.args.characters c.row_of.result c.bit_of.result c.fits-characters c.row_of.ensures c.bit_of.ensures
    ∙ ap (λ b. mask_l (map (λ x. not (goes_by_rows b c.args.self.now x)) c.args.characters)) (sym c.if-inside.false)
