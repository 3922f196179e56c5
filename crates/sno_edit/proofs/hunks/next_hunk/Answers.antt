-- The lines before the context are among those before the change.
use Rattle.std.proofs.Common.{arith}
use Rattle.sno_edit.proofs.HunkLemmas.{kept_fewer}
use Rattle.sno_edit.proofs.hunks.next_hunk.Goals as goal

pub returns-clause-kept : goal.returns-clause-kept
returns-clause-kept c = kept_fewer _ c.kept_len-change.result c.args.script.now (omega arith) c.kept_len-change.ensures.kept
