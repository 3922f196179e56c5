-- What is put so far, with what is left.
use Rattle.std.proofs.Common.{◌≡◌, ◌++◌, drop}
use Rattle.std.specs.List.{flat_map}
use Rattle.sno_book.specs.Views.{state_of}
use Rattle.sno_book.specs.Books.{view_of}
use Rattle.sno_listing.specs.Listing.{text_line}
use Rattle.sno_listing.proofs.listing.put_texts.Given as goal

abbrev pub invariant-loop-place : goal.invariant-loop-place
invariant-loop-place l = l.out.items ++ flat_map text_line (drop l.place (state_of (view_of l.book))) ≡ l.fn.out.items ++ flat_map text_line (state_of (view_of l.book))
