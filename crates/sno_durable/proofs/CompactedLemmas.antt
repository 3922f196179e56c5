-- Versions that are put down text by text.
use Rattle.std.proofs.Common.{◌≡◌, ℕ, ◌+◌, List, Some, drop, slice_get, sym, ap, ◌∙◌}
use Rattle.serde_json.specs.Data.{Data, Members}
use Rattle.sno_book.specs.States.{VersionedText}
use Rattle.sno_listing.proofs.ListingLemmas.{row_next}
use Rattle.sno_durable.specs.Compacted.{versions_after, with_version}

-- one version more
pub version_moved : (before : Data) (old new all : Members) (texts : List VersionedText) (i : ℕ) (held : VersionedText) → slice_get texts i ≡ Some held
    → new ≡ with_version before held.name held.version old → versions_after before old (drop i texts) ≡ all → versions_after before new (drop (i + 1) texts) ≡ all
version_moved before old new all texts i held there is so_far =
    ap (λ m. versions_after before m (drop (i + 1) texts)) is ∙ sym (ap (versions_after before old) (row_next texts i held there)) ∙ so_far
