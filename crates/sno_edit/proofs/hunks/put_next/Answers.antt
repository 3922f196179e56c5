-- The lines that are left fit.
use Rattle.std.proofs.Common.{arith}
use Rattle.sno_edit.proofs.hunks.put_next.Goals as goal

pub put_hunk-requires-clause-old : goal.put_hunk-requires-clause-old
put_hunk-requires-clause-old c = omega arith

pub put_hunk-requires-clause-new : goal.put_hunk-requires-clause-new
put_hunk-requires-clause-new c = omega arith

pub after-requires-clause-old : goal.after-requires-clause-old
after-requires-clause-old c = omega arith

pub after-requires-clause-new : goal.after-requires-clause-new
after-requires-clause-new c = omega arith
