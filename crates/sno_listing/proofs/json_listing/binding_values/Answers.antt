-- The value of the binding at a place is added, and those after it are left.
use Rattle.std.proofs.Common.{sym}
use Rattle.sno_statement.specs.BindingRefs.{datum_lent}
use Rattle.sno_listing.specs.JsonListing.{binding_data}
use Rattle.sno_listing.proofs.JsonListingLemmas.{value_step}
use Rattle.sno_listing.proofs.json_listing.binding_values.Goals as goal

pub loop-place-preserved : goal.loop-place-preserved
loop-place-preserved c =
    value_step binding_data c.loop-place.values.items _ c.in_ok-binding_value-in-Some.field-0 _ c.args.bindings.now c.loop-place.place (c.in-Some.name.now, datum_lent c.in-Some.datum)
    (sym c.in-Some.ensures) c.in_ok-push-in-Some.ensures.items c.in_ok-binding_value-in-Some.ensures c.loop-place.invariant
