-- What one worker did is the serial run.
use Rattle.std.proofs.Common.{rules, map}
use Rattle.std.specs.Arc.{arc_value}
use Rattle.sno_rewrite.proofs.AloneLemmas.{alone_runs}
use Rattle.sno_rewrite.proofs.replies.settle_replies.Goals as goal

pub returns-clause-alone : goal.returns-clause-alone
returns-clause-alone c = λ alone. alone_runs c.args.tries c.args.book (map arc_value c.args.statements.now) c.args.replies.now c.in_ok-refused.refused.items alone c.in_ok-refused.ensures.lists

pub returns-then-is_any_stopped-clause-stopped : goal.returns-then-is_any_stopped-clause-stopped
returns-then-is_any_stopped-clause-stopped c = search rules
