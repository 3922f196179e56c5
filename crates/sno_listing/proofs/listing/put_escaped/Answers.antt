-- A run of characters is put, and the one after it.
use Rattle.std.proofs.Common.{◌∙◌}
use Rattle.sno_listing.proofs.ListingLemmas.{front_step}
use Rattle.sno_listing.proofs.listing.put_escaped.Goals as goal

pub loop-rest-preserved : goal.loop-rest-preserved
loop-rest-preserved c =
    c.in_ok-rest.ensures.put
    ∙ front_step c.loop-rest.out.items c.put.new.out.items c.loop-rest.rest.now c.split_at.result.0.now c.split_at.result.1.now _ c.plain_len.result
    c.in_ok-put.ensures c.split_at.ensures.front c.split_at.ensures.back c.plain_len.ensures.plain c.loop-rest.invariant
