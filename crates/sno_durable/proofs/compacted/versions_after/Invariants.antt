-- The versions so far, and after them those that are left.
use Rattle.std.proofs.Common.{◌≡◌, drop}
use Rattle.serde_json.specs.Data.{no_members}
use Rattle.serde_json.specs.View.{view, members_view}
use Rattle.sno_book.specs.Books.{view_of}
use Rattle.sno_book.specs.Views.{state_of}
use Rattle.sno_durable.specs.Compacted.{versions_after}
use Rattle.sno_durable.proofs.compacted.versions_after.Given as goal

abbrev pub invariant-loop-place : goal.invariant-loop-place
invariant-loop-place l =
    versions_after (view l.past.versions) (members_view l.versions.entries) (drop l.place (state_of (view_of l.book)))
    ≡ versions_after (view l.past.versions) no_members (state_of (view_of l.book))
