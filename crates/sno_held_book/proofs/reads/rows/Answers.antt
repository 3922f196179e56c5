-- The row of the text at a place is added, and those after it are left.
use Rattle.std.proofs.Common.{ap, ◌∙◌}
use Rattle.std.specs.Arc.{arc_value}
use Rattle.sno_book.specs.Views.{state_of}
use Rattle.sno_book.specs.Books.{view_of}
use Rattle.sno_held_book.specs.Lines.{row_of}
use Rattle.sno_serve.specs.Replies.{row_data}
use Rattle.sno_listing.proofs.JsonListingLemmas.{value_step}
use Rattle.sno_held_book.proofs.reads.rows.Goals as goal

pub loop-place-preserved : goal.loop-place-preserved
loop-place-preserved c =
    value_step row_of c.loop-place.rows.items _ c.in_ok-row_value.field-0 _ (state_of (view_of c.args.book.now)) c.loop-place.place
    (record { name = c.in-Some.name.now; text = arc_value c.in-Some.text.now; version = c.in-Some.version })
    c.in-Some.ensures.found c.in_ok-push.ensures.items
    (c.in_ok-row_value.ensures ∙ (λ i. row_data c.in-Some.name.now (c.deref.ensures i) c.in-Some.version))
    c.loop-place.invariant
