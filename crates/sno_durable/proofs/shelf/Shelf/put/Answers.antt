-- The records have been put into the store, sealed as one batch.
use Rattle.sno_durable.proofs.shelf.Shelf.put.Goals as goal

pub show-requires : goal.show-requires
show-requires g c = record { kept = λ clean. ((_, _, _, (c.in_ok-put.ensures.written clean).0), (c.in_ok-put.ensures.written clean).1) }
