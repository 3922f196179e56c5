-- The binding at a place is put, and those after it are left.
use Rattle.std.proofs.Common.{sym}
use Rattle.sno_statement.specs.BindingRefs.{datum_lent}
use Rattle.sno_listing.specs.Listing.{indented}
use Rattle.sno_listing.proofs.ListingLemmas.{row_step}
use Rattle.sno_listing.proofs.listing.put_each_indented.Goals as goal

pub loop-place-preserved : goal.loop-place-preserved
loop-place-preserved c =
    row_step (indented c.args.blanks.now) c.loop-place.out.items c.put_indented.new.out.items _ c.args.bindings.now c.loop-place.place (c.in-Some.name.now, datum_lent c.in-Some.value)
    (sym c.in-Some.ensures) c.in_ok-put_indented-in-Some.ensures c.loop-place.invariant
