-- A refusal is listed after the others.
use Rattle.std.proofs.Common.{ap, sym, None}
use Rattle.std.proofs.lemmas.List.{append-nil}
use Rattle.sno_rewrite.specs.Owners.{result_in}
use Rattle.sno_rewrite.proofs.replies.list.Goals as goal

pub returns-in-Ok-clause-listed : goal.returns-in-Ok-clause-listed
returns-in-Ok-clause-listed c = record { result = None; given = ap result_in c.in-Ok.is; listed = sym (append-nil c.args.refused.now.items) }
