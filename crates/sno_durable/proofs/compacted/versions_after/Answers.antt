-- One version more is put down.
use Rattle.serde_json.specs.View.{view, members_view}
use Rattle.sno_book.specs.Books.{view_of}
use Rattle.sno_book.specs.Views.{state_of}
use Rattle.sno_durable.proofs.CompactedLemmas.{version_moved}
use Rattle.sno_durable.proofs.compacted.versions_after.Goals as goal

pub loop-place-preserved : goal.loop-place-preserved
loop-place-preserved c =
    version_moved (view c.args.past.now.versions) (members_view c.loop-place.versions.entries) (members_view c.put_version.new.versions.entries) _ (state_of (view_of c.args.book.now))
    c.loop-place.place _ c.in-Some.ensures.found c.in_ok-put_version-in-Some.ensures c.loop-place.invariant
