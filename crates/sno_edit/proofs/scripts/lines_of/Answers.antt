-- A line goes from the rest to the lines.
use Rattle.sno_edit.proofs.ScriptLemmas.{line_more}
use Rattle.sno_edit.proofs.scripts.lines_of.Goals as goal

pub loop-rest-preserved : goal.loop-rest-preserved
loop-rest-preserved c = line_more c.args.text.now c.loop-rest.rest.now _ _ _ _ _ c.loop-rest.invariant c.line_end.ensures.first c.in_ok-push.ensures.items c.split_at.ensures.front c.split_at.ensures.back
