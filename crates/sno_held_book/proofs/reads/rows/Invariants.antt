-- The rows so far, with those that are left.
use Rattle.std.proofs.Common.{◌≡◌, ◌++◌, drop, map}
use Rattle.serde_json.specs.View.{view}
use Rattle.sno_book.specs.Views.{state_of}
use Rattle.sno_book.specs.Books.{view_of}
use Rattle.sno_held_book.specs.Lines.{row_of}
use Rattle.sno_held_book.proofs.reads.rows.Given as goal

abbrev pub invariant-loop-place : goal.invariant-loop-place
invariant-loop-place l = map view l.rows.items ++ map row_of (drop l.place (state_of (view_of l.book))) ≡ map row_of (state_of (view_of l.book))
