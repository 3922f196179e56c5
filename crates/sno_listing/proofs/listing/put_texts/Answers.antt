-- The text at a place is put, and those after it are left.
use Rattle.std.specs.Arc.{arc_value}
use Rattle.sno_book.specs.Books.{view_of}
use Rattle.sno_book.specs.Views.{state_of}
use Rattle.sno_listing.specs.Listing.{text_line}
use Rattle.sno_listing.proofs.ListingLemmas.{row_step}
use Rattle.sno_listing.proofs.listing.put_texts.Goals as goal

pub loop-place-preserved : goal.loop-place-preserved
loop-place-preserved c =
    row_step text_line c.loop-place.out.items c.put_text.new.out.items _ (state_of (view_of c.args.book.now)) c.loop-place.place
    (record { name = c.in-Some.name.now; text = arc_value c.in-Some.text.now; version = c.in-Some.version })
    c.in-Some.ensures.found c.in_ok-put_text-in-Some.ensures c.loop-place.invariant
