-- A write takes the first bytes of the rest.
use Rattle.sno_rewrite.proofs.StreamLemmas.{written_more}
use Rattle.sno_rewrite.proofs.streams.write_all.Goals as goal

pub loop-rest-preserved : goal.loop-rest-preserved
loop-rest-preserved g c =
    let h = c.loop-rest.invariant in
    written_more (g.W.Write.contents c.args.writer.now) (g.W.Write.contents c.loop-rest.writer) (g.W.Write.contents c.write.new.self) h.0 c.loop-rest.rest.now
    c.args.bytes.now c.split_at.result.1.now c.in-Ok.count h.1 c.in-Ok.ensures.bytes h.2 c.split_at.ensures.back
